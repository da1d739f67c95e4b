-- Words as the go command writes them, and what they ask for.
use Rattle.std.proofs.Common.{◌≡◌, true, false, [], ◌∷◌, Some, None, codes, refl}
use Rattle.tree.specs.declared.edition.Edition.TheVariants.{Second}
use Rattle.command_line.specs.VetWords.{asks_flags, asks_unit, asks_version, has_wrong, no_flags, vet_call}
use Rattle.command_line.specs.declared.vet_flags.VetFlag.TheVariants.{EditionNumber, Facts, Lines}

of_flags : vet_call (codes "-flags" ∷ []) ≡ Some asks_flags
of_flags = refl

of_version : vet_call (codes "-V=full" ∷ []) ≡ Some asks_version
of_version = refl

of_unit : vet_call (codes "b001/vet.cfg" ∷ []) ≡ Some (asks_unit no_flags (codes "b001/vet.cfg"))
of_unit = refl

-- values behind `=` and in the next word, one dash and two
of_flagged_unit : vet_call (codes "-edition" ∷ codes "2" ∷ codes "--json" ∷ codes "-c=3" ∷ codes "-why=F" ∷ codes "-facts=" ∷ codes "u.cfg" ∷ [])
    ≡ Some (asks_unit record { edition = Some Second; facts = Some []; baseline = None; lines = Some 3; is_json = true; with_tests = false; with_reasons = false; accepted = false; quiet = false; tells_keeping = false; without_library = false } (codes "u.cfg"))
of_flagged_unit = refl

of_accepting_unit : vet_call (codes "-accepted" ∷ codes "-baseline" ∷ codes "r.json" ∷ codes "-quiet=1" ∷ codes "u.cfg" ∷ [])
    ≡ Some (asks_unit record no_flags { baseline = Some (codes "r.json"); accepted = true; quiet = true } (codes "u.cfg"))
of_accepting_unit = refl

-- of two values the last counts, and the first wrong one is told
of_two : vet_call (codes "-json" ∷ codes "-json=false" ∷ codes "u.cfg" ∷ []) ≡ Some (asks_unit no_flags (codes "u.cfg"))
of_two = refl

of_wrong : vet_call (codes "-c" ∷ codes "-1" ∷ codes "-edition=3" ∷ codes "u.cfg" ∷ []) ≡ Some (has_wrong Lines (codes "-1") (codes "u.cfg"))
of_wrong = refl

of_wrong_edition : vet_call (codes "--edition=3" ∷ codes "u.cfg" ∷ []) ≡ Some (has_wrong EditionNumber (codes "3") (codes "u.cfg"))
of_wrong_edition = refl

of_telling_unit : vet_call (codes "-keeping" ∷ codes "-no-std-facts=true" ∷ codes "u.cfg" ∷ [])
    ≡ Some (asks_unit record no_flags { tells_keeping = true; without_library = true } (codes "u.cfg"))
of_telling_unit = refl

-- a relative name is a wrong value in the folder of a run of the go command alone
of_relative : vet_call (codes "-facts=f.json" ∷ codes "/tmp/go-build1/b2/vet.cfg" ∷ [])
    ≡ Some (has_wrong Facts (codes "f.json") (codes "/tmp/go-build1/b2/vet.cfg"))
of_relative = refl

of_absolute : vet_call (codes "-facts=/f.json" ∷ codes "/tmp/go-build1/b2/vet.cfg" ∷ [])
    ≡ Some (asks_unit record no_flags { facts = Some (codes "/f.json") } (codes "/tmp/go-build1/b2/vet.cfg"))
of_absolute = refl

-- no unit is named; the unit is not the last word; what tells whether something is so takes no next word
of_value_alone : vet_call (codes "-facts" ∷ codes "u.cfg" ∷ []) ≡ None
of_value_alone = refl

of_two_units : vet_call (codes "u.cfg" ∷ codes "v.cfg" ∷ []) ≡ None
of_two_units = refl

of_next_word : vet_call (codes "-json" ∷ codes "true" ∷ codes "u.cfg" ∷ []) ≡ None
of_next_word = refl

of_unknown : vet_call (codes "-x" ∷ codes "u.cfg" ∷ []) ≡ None
of_unknown = refl

of_nothing : vet_call [] ≡ None
of_nothing = refl
