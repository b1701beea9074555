-- Which paths the words want asked, by what was seen.
use Rattle.std.specs.Prelude.{ℕ, zero, suc, ◌-◌, List, [], ◌∷◌, ◌++◌, Bool, true, false, Option, Some, None, if◌then◌else◌, is_some, map, filter, option_map, unwrap_or, bytes_eq}
use Rattle.std.specs.List.{find, flat_map}
use Rattle.indexmap.specs.IndexSet.{insert_all}
use Rattle.cx_base.specs.declared.answers.Answer.{Answer}
use Rattle.cx_base.specs.declared.answers.Answer.TheVariants.{Present, Absent, Folder, Unreadable, TooLarge}
use Rattle.cx_base.specs.declared.answers.Entry.{Entry}
use Rattle.cx_base.specs.declared.answers.SeenEntry.{SeenEntry}
use Rattle.cx_base.specs.Simple.{simple_path}
use Rattle.cx_options.specs.declared.answer.ListWord.{ListWord}
use Rattle.cx_options.specs.declared.answer.Options.{Options}
use Rattle.cx_asking.specs.declared.limits.Limits.{Limits}
use Rattle.cx_asking.specs.declared.list_fault.FileFault.{FileFault}
use Rattle.cx_asking.specs.declared.list_fault.ListFault.{ListFault}
use Rattle.cx_asking.specs.declared.purpose.Purpose.{Purpose}
use Rattle.cx_asking.specs.declared.purpose.Purpose.TheVariants as purpose
use Rattle.cx_asking.specs.Lists.{fault_of, is_refused, paths_of}
use Rattle.cx_asking.specs.Members.{in_order, is_source, member_path}

-- a path that is wanted, and for what
pub record Wish : Type 0 where
  pub path : List ℕ
  pub purpose : Purpose

abbrev pub wish : Purpose → List ℕ → Wish
wish purpose path = record { path = path; purpose = purpose }

-- the answer of a path, where it was asked
unfoldable pub look_up : List SeenEntry → List ℕ → Option Answer
look_up seen path = option_map (λ e. e.answer) (find (λ e. bytes_eq e.path path) seen)

-- the answer of a path; one that was not asked counts as absent
abbrev pub answer_in : List SeenEntry → List ℕ → Answer
answer_in seen path = unwrap_or (look_up seen path) Absent

abbrev pub entries_of : Option Answer → List Entry
entries_of (Some (Folder entries)) = entries
entries_of _ = []

-- whether an answer is a folder
abbrev pub is_folder : Answer → Bool
is_folder (Folder entries) = true
is_folder _ = false

-- the folders that were seen, in order
unfoldable pub folders_in : List SeenEntry → List SeenEntry
folders_in seen = filter (λ e. is_folder e.answer) seen

-- what was seen up to the folder of a number, counted from 1; all of it where there are fewer
unfoldable pub up_to_folder : ℕ → List SeenEntry → List SeenEntry
up_to_folder zero seen = []
up_to_folder (suc most) [] = []
up_to_folder (suc most) (e ∷ seen) =
    e ∷ up_to_folder (if is_folder e.answer then most else suc most) seen

-- the members of a subfolder, where it was seen up to the folder of that number
unfoldable pub entries_among : ℕ → List SeenEntry → List ℕ → List Entry
entries_among most seen path = entries_of (look_up (up_to_folder most seen) path)

-- the answer by which a wish makes a unit: that of a subfolder counts up to the folder of that
-- number, since later ones are not asked for
abbrev pub answer_for : ℕ → List SeenEntry → Purpose → List ℕ → Answer
answer_for most seen purpose.Folder path =
    unwrap_or (look_up (up_to_folder most seen) path) Absent
answer_for most seen _ path = answer_in seen path

-- what is wanted of a member of a folder: a file where its name ends in `.c`, a subfolder by a rule
abbrev pub member_wishes : (List ℕ → List Wish) → List ℕ → Entry → List Wish
member_wishes below folder e =
    if e.folder then below (member_path folder e.name)
    else if is_source e.name then wish purpose.File (member_path folder e.name) ∷ []
    else []

-- What is wanted below a folder, down to so many subfolders one within another: in the order of the
-- members' names a file that ends in `.c`, a subfolder and then what is wanted below it. Only the
-- first so many folders are gone through.
unfoldable pub below : ℕ → ℕ → List SeenEntry → List ℕ → List Entry → List Wish
below zero most seen folder entries =
    flat_map (member_wishes (λ path. []) folder) (in_order entries)
below (suc depth) most seen folder entries =
    flat_map (member_wishes
    (λ path. wish purpose.Folder path ∷ below depth most seen path (entries_among most seen path))
    folder) (in_order entries)

-- What is wanted of a path that is given: itself, and where it is a folder, what is below it. Its
-- own depth is 1.
unfoldable pub given_wishes : Limits → List SeenEntry → List ℕ → List Wish
given_wishes limits seen path =
    wish purpose.Given path
    ∷ below (limits.depth - 1) limits.folders seen path (entries_of (look_up seen path))

-- the files that list paths, up to the first that is refused
unfoldable pub list_wishes : List SeenEntry → List ListWord → List Wish
list_wishes seen [] = []
list_wishes seen (list ∷ lists) =
    wish purpose.File (simple_path list.path)
    ∷ (if is_refused (answer_in seen (simple_path list.path)) then [] else list_wishes seen lists)

abbrev pub fault_at : ListWord → FileFault → ListFault
fault_at list fault = record { word = list.word; path = list.path; fault = fault }

-- the first list that is refused, and why
unfoldable pub list_fault : List SeenEntry → List ListWord → Option ListFault
list_fault seen [] = None
list_fault seen (list ∷ lists) =
    or_later (option_map (fault_at list) (fault_of (answer_in seen (simple_path list.path))))
    (list_fault seen lists)
  where
    or_later : Option ListFault → Option ListFault → Option ListFault
    or_later None later = later
    or_later (Some fault) later = Some fault

-- whether one of the lists is refused
abbrev pub has_refused : List SeenEntry → List ListWord → Bool
has_refused seen lists = is_some (list_fault seen lists)

-- the paths that are given: those of the words, and then those of the lists
unfoldable pub given_paths : List SeenEntry → Options → List (List ℕ)
given_paths seen options =
    options.paths
    ++ flat_map (λ l. paths_of (answer_in seen (simple_path l.path))) options.lists

-- what is wanted of the paths that are given
unfoldable pub source_wishes : Limits → List SeenEntry → Options → List Wish
source_wishes limits seen options =
    flat_map (λ path. given_wishes limits seen (simple_path path)) (given_paths seen options)

-- whether a path that is given is a unit: a source, or what could not be read
abbrev pub is_given_unit : List ℕ → Answer → Bool
is_given_unit path (Present bytes) = is_source path
is_given_unit path Absent = false
is_given_unit path (Folder entries) = false
is_given_unit path Unreadable = true
is_given_unit path TooLarge = is_source path

-- whether a source in a folder is a unit: where it is there
abbrev pub is_there : Answer → Bool
is_there (Present bytes) = true
is_there Absent = false
is_there (Folder entries) = false
is_there Unreadable = true
is_there TooLarge = true

-- whether a subfolder is a unit: where it could not be read
abbrev pub is_unreadable : Answer → Bool
is_unreadable Unreadable = true
is_unreadable _ = false

abbrev pub makes_unit : Purpose → List ℕ → Answer → Bool
makes_unit purpose.Given path answer = is_given_unit path answer
makes_unit purpose.File path answer = is_there answer
makes_unit purpose.Folder path answer = is_unreadable answer

-- the units: what is wanted and makes one, each once
unfoldable pub units_of : Limits → List SeenEntry → Options → List (List ℕ)
units_of limits seen options =
    insert_all bytes_eq []
    (map (λ w. w.path)
    (filter (λ w. makes_unit w.purpose w.path (answer_for limits.folders seen w.purpose w.path))
    (source_wishes limits seen options)))
