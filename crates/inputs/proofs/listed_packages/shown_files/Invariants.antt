use Rattle.std.proofs.Common.{◌≡◌, ◌++◌, drop, map, option_map, string_bytes}
use Rattle.folders.specs.ListedFiles.{shown_name}
use Rattle.inputs.proofs.listed_packages.shown_files.Given as goal

-- the names so far, with those of the files that are left, are all
abbrev pub invariant-loop-file : goal.invariant-loop-file
invariant-loop-file l =
    map string_bytes l.names.items
    ++ map (shown_name (option_map (λ h. h.now) l.here) (string_bytes l.listed.folder)) (map string_bytes (drop l.file-index l.listed.files.items))
    ≡ map (shown_name (option_map (λ h. h.now) l.here) (string_bytes l.listed.folder)) (map string_bytes l.listed.files.items)
