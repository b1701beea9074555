use Rattle.std.proofs.Common.{◌≡◌, map, drop}
use Rattle.cx_base.specs.Simple.{simple_path}
use Rattle.cx_shelf.specs.Searches.{in_folder}
use Rattle.cx_shelf.specs.Shapes.Searching.{first_among}
use Rattle.cx_shelf.proofs.search.found_in_folders.Given as goal

abbrev pub invariant-loop-folder : goal.invariant-loop-folder
invariant-loop-folder l =
    first_among l.paths (map (λ folder. simple_path (in_folder folder l.name)) (drop l.folder-index l.folders))
    ≡ first_among l.paths (map (λ folder. simple_path (in_folder folder l.name)) l.folders)
