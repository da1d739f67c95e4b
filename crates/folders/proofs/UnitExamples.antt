-- Texts of files `go.mod`, and names that the go command writes for a unit.
use Rattle.std.proofs.Common.{◌≡◌, true, false, [], ◌∷◌, codes, refl}
use Rattle.folders.specs.GoModules.{module_in}
use Rattle.folders.specs.UnitFiles.{picked_files}

plain : module_in (codes "// one\n\nmodule example.org/m // two\r\ngo 1.19\n") ≡ codes "example.org/m"
plain = refl

quoted : module_in (codes "\tmodule \"example.org/m\"\r\n") ≡ codes "example.org/m"
quoted = refl

first : module_in (codes "modules a\nmodule b\nmodule c") ≡ codes "b"
first = refl

none : module_in (codes "go 1.19\n") ≡ []
none = refl

without_tests : picked_files false (codes "/p") (codes "/p/a.go" ∷ codes "/p/a_test.go" ∷ codes "/w/_cgo_gotypes.go" ∷ codes "/w/c.cgo1.go" ∷ codes "/w/d.go" ∷ []) ≡ codes "/p/a.go" ∷ codes "/p/c.go" ∷ codes "/w/d.go" ∷ []
without_tests = refl

with_tests : picked_files true (codes "/p/") (codes "/p/_cgo_x.go" ∷ codes "/p/b.cgo1.go" ∷ codes "/p/q/b_test.cgo1.go" ∷ []) ≡ codes "/p/_cgo_x.go" ∷ codes "/p/b.cgo1.go" ∷ codes "/p/b_test.go" ∷ []
with_tests = refl
