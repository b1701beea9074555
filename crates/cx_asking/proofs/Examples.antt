-- The definitions, computed on small lists, folders and answers.
use Rattle.std.proofs.Common.{◌≡◌, ℕ, List, [], ◌∷◌, ◌++◌, Bool, true, false, Some, None, codes, refl}
use Rattle.std.specs.Prelude.{if◌then◌else◌, bytes_eq}
use Rattle.std.specs.Str.{chars, is_utf8}
use lib.Utf8.{encode}
use Rattle.bstr.specs.Text.{line_len, lines_from}
use Rattle.cx_base.specs.declared.answers.Answer.{Answer}
use Rattle.cx_base.specs.declared.answers.Answer.TheVariants.{Present, Absent, Folder, Unreadable, TooLarge}
use Rattle.cx_base.specs.declared.answers.Entry.{Entry}
use Rattle.cx_base.specs.declared.answers.SeenEntry.{SeenEntry}
use Rattle.cx_base.specs.Simple.{simple_path}
use Rattle.cx_directive.specs.declared.include.IncludeName.{IncludeName}
use Rattle.cx_options.specs.declared.answer.ListWord.{ListWord}
use Rattle.cx_options.specs.declared.answer.Options.{Options}
use Rattle.cx_shelf.specs.Searches.{candidates, folder_part}
use Rattle.cx_asking.specs.declared.limits.Limits.{Limits}
use Rattle.cx_asking.specs.declared.list_fault.FileFault.TheVariants as fault
use Rattle.cx_asking.specs.declared.purpose.Purpose.TheVariants as purpose
use Rattle.cx_asking.specs.Answers.{kept}
use Rattle.cx_asking.specs.Asking.{is_open, next, wanted}
use Rattle.cx_asking.specs.Calls.{AreCalls, list_call, read_call}
use Rattle.cx_asking.specs.Includes.{Texts, all_include_wishes, files_of, included, reached, tried, wishes_of}
use Rattle.cx_asking.specs.Lists.{bad_line, fault_of, lines, paths_in, paths_of}
use Rattle.cx_asking.specs.Members.{in_order, is_source, member_path, numbered}
use Rattle.cx_asking.specs.Wishes.{below, entries_among, folders_in, given_paths, given_wishes, list_fault, list_wishes, look_up, source_wishes, units_of, up_to_folder, wish}

-- ---- lists

newline : List ℕ
newline = 10 ∷ []

two_lines : lines (codes "a.c" ++ newline ++ codes "b.c") ≡ codes "a.c" ∷ codes "b.c" ∷ []
unfolding lines_from line_len newline
two_lines = refl

-- a byte 13 goes with the newline behind it, and stays elsewhere
returns : lines (codes "a" ++ 13 ∷ 10 ∷ 13 ∷ codes "b" ++ 13 ∷ []) ≡ codes "a" ∷ (13 ∷ codes "b" ++ 13 ∷ []) ∷ []
unfolding lines_from line_len
returns = refl

-- empty lines name nothing, and blanks belong to a path
empty_lines : paths_in (newline ++ codes " a" ++ newline ++ newline) ≡ codes " a" ∷ []
unfolding lines_from line_len newline
empty_lines = refl

not_utf8 : fault_of (Present (codes "a" ++ 10 ∷ 255 ∷ [])) ≡ Some (fault.BadLine 2)
unfolding fault_of bad_line lines_from line_len is_utf8 chars encode
not_utf8 = refl

empty_list : fault_of (Present []) ≡ None
unfolding fault_of bad_line lines_from
empty_list = refl

folder_is_no_list : fault_of (Folder []) ≡ Some fault.Absent
unfolding fault_of
folder_is_no_list = refl

-- ---- members of folders

entry : List ℕ → Bool → Entry
entry name folder = record { name = name; folder = folder }

by_bytes : in_order (entry (codes "b") false ∷ entry (codes "a") true ∷ entry (codes "B") false ∷ [])
    ≡ entry (codes "B") false ∷ entry (codes "a") true ∷ entry (codes "b") false ∷ []
unfolding in_order numbered entry
by_bytes = refl

-- those of one name stay as they were answered
of_one_name : in_order (entry (codes "a") true ∷ entry (codes "a") false ∷ []) ≡ entry (codes "a") true ∷ entry (codes "a") false ∷ []
unfolding in_order numbered entry
of_one_name = refl

in_present_folder : member_path (codes ".") (codes "a.c") ≡ codes "a.c"
unfolding simple_path
in_present_folder = refl

sources : (is_source (codes "a.c") ≡ true) × (is_source (codes "a.h") ≡ false) × (is_source (codes "a.C") ≡ false)
sources = (refl, refl, refl)

-- ---- what is wanted of a folder

at : List ℕ → Answer → SeenEntry
at path answer = record { path = path; answer = answer }

so_deep : ℕ → Limits
so_deep depth = record { read = 100; kept = 100; folders = 2; depth = depth }

-- `d` holds `b.c`, the folder `e`, `a.c` and `n.h`
outer : SeenEntry
outer =
    at (codes "d") (Folder (entry (codes "b.c") false ∷ entry (codes "e") true ∷ entry (codes "a.c") false ∷ entry (codes "n.h") false ∷ []))

inner : SeenEntry
inner = at (codes "d/e") (Folder (entry (codes "c.c") false ∷ []))

unasked_folder : given_wishes (so_deep 2) [] (codes "d") ≡ wish purpose.Given (codes "d") ∷ []
unfolding given_wishes below in_order numbered look_up so_deep
unasked_folder = refl

sources_and_folders : given_wishes (so_deep 2) (outer ∷ []) (codes "d")
    ≡ wish purpose.Given (codes "d") ∷ wish purpose.File (codes "d/a.c") ∷ wish purpose.File (codes "d/b.c") ∷ wish purpose.Folder (codes "d/e") ∷ []
unfolding given_wishes below entries_among up_to_folder in_order numbered look_up simple_path so_deep outer at entry
sources_and_folders = refl

folder_within : given_wishes (so_deep 2) (outer ∷ inner ∷ []) (codes "d")
    ≡ wish purpose.Given (codes "d") ∷ wish purpose.File (codes "d/a.c") ∷ wish purpose.File (codes "d/b.c") ∷ wish purpose.Folder (codes "d/e")
    ∷ wish purpose.File (codes "d/e/c.c") ∷ []
unfolding given_wishes below entries_among up_to_folder in_order numbered look_up simple_path so_deep outer inner at entry
folder_within = refl

-- a path that is given has depth 1
no_folder_within : given_wishes (so_deep 1) (outer ∷ inner ∷ []) (codes "d")
    ≡ wish purpose.Given (codes "d") ∷ wish purpose.File (codes "d/a.c") ∷ wish purpose.File (codes "d/b.c") ∷ []
unfolding given_wishes below in_order numbered look_up simple_path so_deep outer inner at entry
no_folder_within = refl

first_folder_alone : up_to_folder 1 (at (codes "a") Absent ∷ outer ∷ inner ∷ []) ≡ at (codes "a") Absent ∷ outer ∷ []
unfolding up_to_folder outer inner at
first_folder_alone = refl

-- ---- candidates of includes

quoted : List ℕ → IncludeName
quoted name = record { name = name; quoted = true; at = record { file = 0; line = 1; column = 1 } }

own_folder_first : tried (codes "i" ∷ []) (codes "d/a.c") (quoted (codes "n.h")) ≡ codes "d/n.h" ∷ codes "i/n.h" ∷ []
unfolding candidates folder_part simple_path is_utf8 chars encode quoted
own_folder_first = refl

name_is_no_text : tried (codes "i" ∷ []) (codes "d/a.c") (quoted (255 ∷ [])) ≡ []
unfolding is_utf8 chars encode quoted
name_is_no_text = refl

-- candidates are asked up to the first at which something stands
both : List (List ℕ)
both = codes "d/n.h" ∷ codes "i/n.h" ∷ []

behind_absent : wishes_of (at (codes "d/n.h") Absent ∷ []) both ≡ wish purpose.File (codes "d/n.h") ∷ wish purpose.File (codes "i/n.h") ∷ []
unfolding wishes_of look_up both at
behind_absent = refl

not_behind_present : wishes_of (at (codes "d/n.h") (Present []) ∷ []) both ≡ wish purpose.File (codes "d/n.h") ∷ []
unfolding wishes_of look_up both at
not_behind_present = refl

not_behind_unreadable : wishes_of (at (codes "d/n.h") Unreadable ∷ []) both ≡ wish purpose.File (codes "d/n.h") ∷ []
unfolding wishes_of look_up both at
not_behind_unreadable = refl

-- `a` leads to `c` and `b`, `c` to `e` and `a`, and `b` to `d`
leads_to : List ℕ → List (List ℕ)
leads_to file =
    if bytes_eq file (codes "a") then codes "c" ∷ codes "b" ∷ []
    else if bytes_eq file (codes "c") then codes "e" ∷ codes "a" ∷ []
    else if bytes_eq file (codes "b") then codes "d" ∷ []
    else []

breadth_first : reached leads_to (codes "a" ∷ []) 3 ≡ codes "a" ∷ codes "c" ∷ codes "b" ∷ codes "e" ∷ codes "d" ∷ []
unfolding reached leads_to
breadth_first = refl

-- ---- askings

list_word : ℕ → List ℕ → ListWord
list_word word path = record { word = word; path = path; suppressions = false }

-- these paths, and files that list paths
words : List (List ℕ) → List ListWord → Options
words paths lists = record {
  paths = paths;
  defines = [];
  undefined = [];
  folders = [];
  quiet = false;
  warning = false;
  style = false;
  information = false;
  missing_include = false;
  lists = lists;
  error_exitcode = 0;
  force = false;
  max_configs = None;
}

-- `x --file-list=l --file-list=m`
with_lists : Options
with_lists = words (codes "x" ∷ []) (list_word 1 (codes "l") ∷ list_word 2 (codes "m") ∷ [])

list_first : (texts : Texts) → next (so_deep 2) texts with_lists [] ≡ Some (wish purpose.File (codes "l"))
unfolding next wanted is_open list_wishes look_up simple_path fault_of with_lists words list_word
list_first texts = refl

-- a list that is absent is refused, and then nothing more is asked
nothing_behind_refused : (texts : Texts) → next (so_deep 2) texts with_lists (at (codes "l") Absent ∷ []) ≡ None
unfolding next wanted is_open list_wishes list_fault look_up simple_path fault_of with_lists words list_word at
nothing_behind_refused texts = refl

refused : list_fault (at (codes "l") Absent ∷ []) (list_word 1 (codes "l") ∷ list_word 2 (codes "m") ∷ [])
    ≡ Some (record { word = 1; path = codes "l"; fault = fault.Absent })
unfolding list_fault look_up simple_path fault_of list_word at
refused = refl

-- `l` names `y`, and `m` names nothing
read_lists : List SeenEntry
read_lists = at (codes "l") (Present (codes "y")) ∷ at (codes "m") (Present []) ∷ []

words_before_lists : given_paths read_lists with_lists ≡ codes "x" ∷ codes "y" ∷ []
unfolding given_paths paths_of look_up simple_path lines_from line_len read_lists with_lists words list_word at
words_before_lists = refl

-- `d d`, where `d` is the folder above
folder_twice : Options
folder_twice = words (codes "d" ∷ codes "d" ∷ []) []

next_member : (texts : Texts) → next (so_deep 2) texts folder_twice (outer ∷ []) ≡ Some (wish purpose.File (codes "d/a.c"))
unfolding next wanted is_open list_wishes list_fault source_wishes given_paths given_wishes below entries_among up_to_folder in_order numbered look_up simple_path folders_in so_deep folder_twice words outer at entry
next_member texts = refl

-- where nothing stands at a path that is given, nothing more is asked
nothing_there : (texts : Texts) → next (so_deep 2) texts (words (codes "x" ∷ []) []) (at (codes "x") Absent ∷ []) ≡ None
unfolding next wanted is_open list_wishes list_fault source_wishes given_paths given_wishes below in_order numbered look_up simple_path units_of all_include_wishes files_of included reached so_deep words at
nothing_there texts = refl

-- ---- units

-- a source that is too large and a folder that could not be read are units, a header is none
seen_all : List SeenEntry
seen_all =
    outer ∷ at (codes "d/a.c") (Present []) ∷ at (codes "d/b.c") TooLarge ∷ at (codes "d/e") Unreadable ∷ at (codes "n.h") (Present []) ∷ []

units : units_of (so_deep 2) seen_all (words (codes "n.h" ∷ codes "d" ∷ codes "d/a.c" ∷ []) []) ≡ codes "d/a.c" ∷ codes "d/b.c" ∷ codes "d/e" ∷ []
unfolding units_of source_wishes given_paths given_wishes below entries_among up_to_folder in_order numbered look_up simple_path so_deep words seen_all outer at entry
units = refl

-- ---- answers and calls

bytes_of_files : kept (at (codes "a") (Present (codes "xyz")) ∷ at (codes "b") TooLarge ∷ at (codes "c") (Present (codes "w")) ∷ []) ≡ 4
unfolding kept at
bytes_of_files = refl

-- a path that is given is asked for a folder, and then for a file
given_file : AreCalls 9 purpose.Given (codes "a") (Present []) (list_call (codes "a") false ∷ read_call 9 (codes "a") false ∷ [])
given_file = refl

included_file : AreCalls 9 purpose.File (codes "a") Absent (read_call 9 (codes "a") false ∷ [])
included_file = refl
