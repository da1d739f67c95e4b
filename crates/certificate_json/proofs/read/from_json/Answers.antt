use Rattle.std.proofs.Common.{map}
use Rattle.table_json.proofs.TablesRead.{version_again}
use Rattle.certificate_json.specs.Certificates.{package_of}
use Rattle.certificate_json.specs.declared.fault.CertificateFault.TheVariants.{WrongShape}
use Rattle.certificate_json.proofs.CertificateLaws.{in_order, no_other, only_memory}
use Rattle.certificate_json.proofs.PackagesRead.{no_whole, whole_read}
use Rattle.certificate_json.proofs.read.from_json.Goals as goal

pub returns-in-Some-clause-certificates : goal.returns-in-Some-clause-certificates
returns-in-Some-clause-certificates c =
    let version = c.in_ok-version.ensures.ok in
    let read = c.in_ok-packages.ensures.ok in
    record {
      value = read.0;
      is_json = read.1;
      are_certificates =
          whole_read c.in_ok-version.version read.0 c.in_ok-packages.field-0 c.in-Some.packages read.2 c.in-Some.is
          (version_again c.args.text.now c.in_ok-version.version version.0 read.0 version.1 version.2 read.1);
    }

pub returns-in-Some-clause-in_order : goal.returns-in-Some-clause-in_order
returns-in-Some-clause-in_order c =
    let version = c.in_ok-version.ensures.ok in
    let read = c.in_ok-packages.ensures.ok in
    in_order c.in_ok-version.version read.0 (map package_of c.in-Some.packages.items)
    (whole_read c.in_ok-version.version read.0 c.in_ok-packages.field-0 c.in-Some.packages read.2 c.in-Some.is
    (version_again c.args.text.now c.in_ok-version.version version.0 read.0 version.1 version.2 read.1))

pub returns-in-Some-clause-no_other : goal.returns-in-Some-clause-no_other
returns-in-Some-clause-no_other c = λ version other.
    let known = c.in_ok-version.ensures.ok in
    let read = c.in_ok-packages.ensures.ok in
    no_other c.args.text.now read.0 c.in_ok-version.version version (map package_of c.in-Some.packages.items) other
    read.1
    (whole_read c.in_ok-version.version read.0 c.in_ok-packages.field-0 c.in-Some.packages read.2 c.in-Some.is
    (version_again c.args.text.now c.in_ok-version.version known.0 read.0 known.1 known.2 read.1))

pub returns-in-None-clause-fault : goal.returns-in-None-clause-fault
returns-in-None-clause-fault c =
    let version = c.in_ok-version.ensures.ok in
    let read = c.in_ok-packages.ensures.ok in (
      read.0,
      read.1,
      no_whole c.in_ok-version.version read.0 c.in_ok-packages.field-0 read.2 c.in-None.is
          (version_again c.args.text.now c.in_ok-version.version version.0 read.0 version.1 version.2 read.1),
    )

pub returns-in-None-clause-only_memory : goal.returns-in-None-clause-only_memory
returns-in-None-clause-only_memory c =
    let version = c.in_ok-version.ensures.ok in
    let read = c.in_ok-packages.ensures.ok in
    only_memory c.args.text.now WrongShape (
      read.0,
      read.1,
      no_whole c.in_ok-version.version read.0 c.in_ok-packages.field-0 read.2 c.in-None.is
          (version_again c.args.text.now c.in_ok-version.version version.0 read.0 version.1 version.2 read.1),
    )
