-- A fault of a file that flags name: it is told, or left to another unit.
use Rattle.std.proofs.Common.{◌≡◌, inl, inr, true, false, ℕ, Bool, List, Option, IfErr, IfOk, Result, Ok, Err, refl, subst, sym}
use Rattle.std.specs.Prelude.{◌⊎◌, ◌||◌, is_some}
use Rattle.command_line.specs.VetWords.{run_folder}
use Rattle.command_line.specs.declared.vet_told.UnitFlags.{UnitFlags}
use Rattle.folders.specs.declared.fault.Fault.{Fault}
use Rattle.folders.specs.declared.fault.Fault.TheVariants.{CannotWrite, OutOfMemory}
use Rattle.printed.specs.Printing.{is_of_writing, refused_by}
use Rattle.printed.specs.declared.status.Status.{Status}
use Rattle.printed.specs.declared.status.Status.TheVariants.{Fine}
use Rattle.unit_reading.specs.UnitsTold.{IsUnitRead}
use Rattle.unit_reading.specs.declared.unit_file.UnitRead.{UnitRead}
use Rattle.unit_config.specs.UnitValues.{unit_of}
use Rattle.vet_units.specs.UnitRuns.{is_of_memory, DoesUnit, IsUnitRunFault}
use Rattle.vet_units.specs.UnitsRead.{IsFlagFileFault}
use Rattle.vet_units.proofs.UnitFaults.{of_flag_files}

module _ (flags : UnitFlags) where
  -- it is none of writing
  not_of_writing : (fault : Fault) → IsFlagFileFault flags fault → is_of_writing fault ≡ false
  not_of_writing CannotWrite (inl is) = absurd is.so.is_fault
  not_of_writing CannotWrite (inr is) = absurd is.so.is_fault
  not_of_writing _ is = refl

  -- what is handed on is the fault itself, or that memory was refused for the question who tells it
  pub handed_once : {T : Type 0} (r : Result T Fault) (fault : Fault) → IsFlagFileFault flags fault
      → IfErr r (λ told. (told ≡ fault) ⊎ (told ≡ OutOfMemory))
      → IfErr r (IsFlagFileFault flags)
  handed_once (Ok x) fault is told = tt
  handed_once (Err other) fault is (inl same) = subst (IsFlagFileFault flags) (sym same) is
  handed_once (Err other) fault is (inr none) = subst (IsFlagFileFault flags) (sym none) (inl tt)

  pub is_run_fault : {T : Type 0} (r : Result T Fault) (file : List ℕ) (read : UnitRead) → IsUnitRead file read
      → IfErr r (IsFlagFileFault flags)
      → IfErr r (IsUnitRunFault flags file)
  is_run_fault (Ok x) file read is_read is = tt
  is_run_fault (Err fault) file read is_read is = inr (record {
    read = read;
    is_read = is_read;
    is_fault = inl (of_flag_files flags (unit_of read.unit) fault is);
  })

  nothing_refused : (before : Bool) (fault : Fault) → is_of_writing fault ≡ false
      → before ≡ (before || is_of_writing fault)
  nothing_refused true fault is = refl
  nothing_refused false fault is = sym is

  pub is_not_refused : (before : Bool) (r : Result Status Fault) → IfErr r (IsFlagFileFault flags)
      → before ≡ refused_by before r
  is_not_refused before (Ok status) is = refl
  is_not_refused before (Err fault) is = nothing_refused before fault (not_of_writing fault is)

  pub left_to_another : (r : Result Status Fault) (file : List ℕ) (old new : Option (List ℕ)) (read : UnitRead)
      (fault : Fault)
      → IsUnitRead file read
      → IsFlagFileFault flags fault
      → new ≡ old
      → IfOk r (λ status. (status ≡ Fine) × (is_some (run_folder file) ≡ true) × (is_of_memory fault ≡ false))
      → IfOk r (λ status. DoesUnit flags file status old new)
  left_to_another (Err other) file old new read fault is_read is same so = tt
  left_to_another (Ok status) file old new read fault is_read is same so = inr (record {
    read = read;
    is_read = is_read;
    fault = fault;
    is_fault = is;
    is_of_all = so.2;
    is_in_run = so.1;
    is_status = so.0;
    is_unwritten = same;
  })
