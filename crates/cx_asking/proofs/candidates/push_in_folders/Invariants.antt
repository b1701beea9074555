use Rattle.std.proofs.Common.{◌≡◌, ◌++◌, map, take}
use Rattle.cx_base.specs.Simple.{simple_path}
use Rattle.cx_shelf.specs.Searches.{in_folder}
use Rattle.cx_asking.proofs.candidates.push_in_folders.Given as goal

abbrev pub invariant-loop-folder : goal.invariant-loop-folder
invariant-loop-folder l =
    l.paths.items ≡ l.initial.paths.items
    ++ map (λ folder. simple_path (in_folder folder l.name)) (take l.folder-index l.folders)
