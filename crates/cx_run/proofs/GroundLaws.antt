-- What units are told by is determined by what was seen, and there is such a ground.
use Rattle.std.proofs.Common.{◌≡◌, ℕ, ◌+◌, List, [], ◌∷◌, ◌++◌, Option, Some, None, refl, sym, ap, subst, ◌∙◌}
use Rattle.std.specs.Prelude.{IsFalse}
use Rattle.cx_base.specs.declared.answers.Answer.{Answer}
use Rattle.cx_base.specs.declared.answers.Answer.TheVariants.{Present, Absent, Folder, Unreadable, TooLarge}
use Rattle.cx_base.specs.declared.answers.SeenEntry.{SeenEntry}
use Rattle.cx_lex.specs.Lexing.{Lexes, Outcome, lexed, piece_limit, too_long, unclosed_comment}
use Rattle.cx_lex.proofs.Outcomes.{one_outcome_of, some_outcome_of}
use Rattle.cx_shelf.specs.declared.shelf.Shelved.{Shelved}
use Rattle.cx_options.specs.declared.answer.Options.{Options}
use Rattle.cx_asking.specs.declared.text_fault.TextFault.{TextFault}
use Rattle.cx_asking.specs.declared.text_fault.TextFault.TheVariants.{TooLong, UnclosedComment}
use Rattle.cx_asking.specs.Asking.{AreFaults, AreShelved, IsFault, IsTextFault, faulty, is_present, no_file, none, nothing, other, shelved, sound, unsound}
use Rattle.cx_library.specs.BuiltIn.{built_in}
use Rattle.cx_library.specs.Library.{macros_of}
use Rattle.cx_unit.specs.Units.{Ground}
use Rattle.cx_run.specs.declared.limits.RunLimits.{RunLimits}
use Rattle.cx_run.specs.Reports.{IsGround}

-- The files of one entry.

abbrev HasFiles : List ℕ → Outcome → List Shelved → Type 0
HasFiles path (lexed pieces comments) files = files ≡ record { path = path; lexed = record { pieces = pieces; comments = comments } } ∷ []
HasFiles path (unclosed_comment at) files = files ≡ []
HasFiles path (too_long at) files = files ≡ []

abbrev IsHead : ℕ → List ℕ → Answer → List Shelved → Type 0
IsHead n path (Present bytes) files = (o : Outcome) × Lexes n piece_limit bytes o × HasFiles path o files
IsHead n path Absent files = files ≡ []
IsHead n path (Folder entries) files = files ≡ []
IsHead n path Unreadable files = files ≡ []
IsHead n path TooLarge files = files ≡ []

has_none : (path : List ℕ) (o : Outcome) → IsFault o → HasFiles path o []
has_none path (lexed pieces comments) h = absurd h
has_none path (unclosed_comment at) h = refl
has_none path (too_long at) h = refl

not_present : (n : ℕ) (path : List ℕ) (a : Answer) → IsFalse (is_present a) → IsHead n path a []
not_present n path (Present bytes) h = absurd cc
not_present n path Absent h = refl
not_present n path (Folder entries) h = refl
not_present n path Unreadable h = refl
not_present n path TooLarge h = refl

record Split (n : ℕ) (e : SeenEntry) (seen : List SeenEntry) (files : List Shelved) : Type 0 where
  first : List Shelved
  others : List Shelved
  splits : files ≡ first ++ others
  head : IsHead n e.path e.answer first
  rest : AreShelved (n + 1) seen others

split : (n : ℕ) (e : SeenEntry) (seen : List SeenEntry) (files : List Shelved) → AreShelved n (e ∷ seen) files → Split n e seen files
split _ _ _ (_ ∷ _) (shelved n path bytes f seen files p l rest) = record {
  first = f ∷ [];
  others = files;
  splits = refl;
  head = (lexed f.lexed.pieces f.lexed.comments, l, ap (λ q. record { path = q; lexed = f.lexed } ∷ []) p);
  rest = rest;
}
split _ _ _ _ (faulty n path bytes outcome seen files fault l rest) =
    record { first = []; others = files; splits = refl; head = (outcome, l, has_none path outcome fault); rest = rest }
split _ _ _ _ (other n e seen files p rest) =
    record { first = []; others = files; splits = refl; head = not_present n e.path e.answer p; rest = rest }

files_same : (path : List ℕ) (o : Outcome) (a b : List Shelved) → HasFiles path o a → HasFiles path o b → a ≡ b
files_same path (lexed pieces comments) a b p q = p ∙ sym q
files_same path (unclosed_comment at) a b p q = p ∙ sym q
files_same path (too_long at) a b p q = p ∙ sym q

head_same : (n : ℕ) (path : List ℕ) (answer : Answer) (a b : List Shelved) → IsHead n path answer a → IsHead n path answer b → a ≡ b
head_same n path (Present bytes) a b p q =
    files_same path p.0 a b p.2 (subst (λ o. HasFiles path o b) (one_outcome_of n piece_limit bytes q.0 p.0 q.1 p.1) q.2)
head_same n path Absent a b p q = p ∙ sym q
head_same n path (Folder entries) a b p q = p ∙ sym q
head_same n path Unreadable a b p q = p ∙ sym q
head_same n path TooLarge a b p q = p ∙ sym q

no_files : (n : ℕ) (files : List Shelved) → AreShelved n [] files → files ≡ []
no_files n [] h = refl
no_files n (_ ∷ _) h = elim h [ ]

shelved_same : (n : ℕ) (seen : List SeenEntry) (a b : List Shelved) → AreShelved n seen a → AreShelved n seen b → a ≡ b
shelved_same n [] a b p q = no_files n a p ∙ sym (no_files n b q)
shelved_same n (e ∷ seen) a b p q =
    let x = split n e seen a p in
    let y = split n e seen b q in
    let firsts = head_same n e.path e.answer x.first y.first x.head y.head in
    let others = shelved_same (n + 1) seen x.others y.others x.rest y.rest in
    x.splits ∙ ap (λ l. l ++ x.others) firsts ∙ ap (λ l. y.first ++ l) others ∙ sym y.splits

-- The fault of one entry.

abbrev HasFault : Outcome → Option TextFault → Type 0
HasFault (lexed pieces comments) fault = fault ≡ None
HasFault (unclosed_comment at) fault = fault ≡ Some (UnclosedComment at)
HasFault (too_long at) fault = fault ≡ Some (TooLong at)

abbrev IsFaultOf : ℕ → Answer → Option TextFault → Type 0
IsFaultOf n (Present bytes) fault = (o : Outcome) × Lexes n piece_limit bytes o × HasFault o fault
IsFaultOf n Absent fault = fault ≡ None
IsFaultOf n (Folder entries) fault = fault ≡ None
IsFaultOf n Unreadable fault = fault ≡ None
IsFaultOf n TooLarge fault = fault ≡ None

has_fault : (o : Outcome) (fault : TextFault) → IsTextFault o fault → HasFault o (Some fault)
has_fault (lexed pieces comments) fault h = absurd h
has_fault (unclosed_comment at) (UnclosedComment place) h = ap (λ p. Some (UnclosedComment p)) h
has_fault (unclosed_comment at) (TooLong place) h = absurd h
has_fault (too_long at) (UnclosedComment place) h = absurd h
has_fault (too_long at) (TooLong place) h = ap (λ p. Some (TooLong p)) h

no_fault : (n : ℕ) (a : Answer) → IsFalse (is_present a) → IsFaultOf n a None
no_fault n (Present bytes) h = absurd cc
no_fault n Absent h = refl
no_fault n (Folder entries) h = refl
no_fault n Unreadable h = refl
no_fault n TooLarge h = refl

record SplitFaults (n : ℕ) (e : SeenEntry) (seen : List SeenEntry) (faults : List (Option TextFault)) : Type 0 where
  first : Option TextFault
  others : List (Option TextFault)
  splits : faults ≡ first ∷ others
  head : IsFaultOf n e.answer first
  rest : AreFaults (n + 1) seen others

split_faults : (n : ℕ) (e : SeenEntry) (seen : List SeenEntry) (faults : List (Option TextFault)) → AreFaults n (e ∷ seen) faults
    → SplitFaults n e seen faults
split_faults _ _ _ [] h = elim h [ ]
split_faults _ _ _ (_ ∷ _) (sound n path bytes pieces comments seen faults l rest) =
    record { first = None; others = faults; splits = refl; head = (lexed pieces comments, l, refl); rest = rest }
split_faults _ _ _ (_ ∷ _) (unsound n path bytes outcome fault seen faults p l rest) =
    record { first = Some fault; others = faults; splits = refl; head = (outcome, l, has_fault outcome fault p); rest = rest }
split_faults _ _ _ (_ ∷ _) (no_file n e seen faults p rest) =
    record { first = None; others = faults; splits = refl; head = no_fault n e.answer p; rest = rest }

outcome_fault_same : (o : Outcome) (a b : Option TextFault) → HasFault o a → HasFault o b → a ≡ b
outcome_fault_same (lexed pieces comments) a b p q = p ∙ sym q
outcome_fault_same (unclosed_comment at) a b p q = p ∙ sym q
outcome_fault_same (too_long at) a b p q = p ∙ sym q

fault_same : (n : ℕ) (answer : Answer) (a b : Option TextFault) → IsFaultOf n answer a → IsFaultOf n answer b → a ≡ b
fault_same n (Present bytes) a b p q =
    outcome_fault_same p.0 a b p.2 (subst (λ o. HasFault o b) (one_outcome_of n piece_limit bytes q.0 p.0 q.1 p.1) q.2)
fault_same n Absent a b p q = p ∙ sym q
fault_same n (Folder entries) a b p q = p ∙ sym q
fault_same n Unreadable a b p q = p ∙ sym q
fault_same n TooLarge a b p q = p ∙ sym q

no_faults : (n : ℕ) (faults : List (Option TextFault)) → AreFaults n [] faults → faults ≡ []
no_faults n [] h = refl
no_faults n (_ ∷ _) h = elim h [ ]

faults_same : (n : ℕ) (seen : List SeenEntry) (a b : List (Option TextFault)) → AreFaults n seen a → AreFaults n seen b → a ≡ b
faults_same n [] a b p q = no_faults n a p ∙ sym (no_faults n b q)
faults_same n (e ∷ seen) a b p q =
    let x = split_faults n e seen a p in
    let y = split_faults n e seen b q in
    let firsts = fault_same n e.answer x.first y.first x.head y.head in
    let others = faults_same (n + 1) seen x.others y.others x.rest y.rest in
    x.splits ∙ ap (λ f. f ∷ x.others) firsts ∙ ap (λ l. y.first ∷ l) others ∙ sym y.splits

-- There are such files and such faults.

files_by : (n : ℕ) (path bytes : List ℕ) (o : Outcome) (seen : List SeenEntry) (others : List Shelved) → Lexes n piece_limit bytes o
    → AreShelved (n + 1) seen others → (files : List Shelved) × AreShelved n (record { path = path; answer = Present bytes } ∷ seen) files
files_by n path bytes (lexed pieces comments) seen others l rest =
    let f : Shelved = record { path = path; lexed = record { pieces = pieces; comments = comments } } in
    (f ∷ others, shelved n path bytes f seen others refl l rest)
files_by n path bytes (unclosed_comment at) seen others l rest = (others, faulty n path bytes (unclosed_comment at) seen others tt l rest)
files_by n path bytes (too_long at) seen others l rest = (others, faulty n path bytes (too_long at) seen others tt l rest)

more_files : (n : ℕ) (path : List ℕ) (answer : Answer) (seen : List SeenEntry) (others : List Shelved) → AreShelved (n + 1) seen others
    → (files : List Shelved) × AreShelved n (record { path = path; answer = answer } ∷ seen) files
more_files n path (Present bytes) seen others rest =
    let o = some_outcome_of n piece_limit bytes in files_by n path bytes o.0 seen others o.1 rest
more_files n path Absent seen others rest = (others, other n (record { path = path; answer = Absent }) seen others refl rest)
more_files n path (Folder entries) seen others rest = (others, other n (record { path = path; answer = Folder entries }) seen others refl rest)
more_files n path Unreadable seen others rest = (others, other n (record { path = path; answer = Unreadable }) seen others refl rest)
more_files n path TooLarge seen others rest = (others, other n (record { path = path; answer = TooLarge }) seen others refl rest)

some_files : (n : ℕ) (seen : List SeenEntry) → (files : List Shelved) × AreShelved n seen files
some_files n [] = ([], none n)
some_files n (e ∷ seen) = let others = some_files (n + 1) seen in more_files n e.path e.answer seen others.0 others.1

faults_by : (n : ℕ) (path bytes : List ℕ) (o : Outcome) (seen : List SeenEntry) (others : List (Option TextFault)) → Lexes n piece_limit bytes o
    → AreFaults (n + 1) seen others → (faults : List (Option TextFault)) × AreFaults n (record { path = path; answer = Present bytes } ∷ seen) faults
faults_by n path bytes (lexed pieces comments) seen others l rest =
    (None ∷ others, sound n path bytes pieces comments seen others l rest)
faults_by n path bytes (unclosed_comment at) seen others l rest =
    (Some (UnclosedComment at) ∷ others, unsound n path bytes (unclosed_comment at) (UnclosedComment at) seen others refl l rest)
faults_by n path bytes (too_long at) seen others l rest =
    (Some (TooLong at) ∷ others, unsound n path bytes (too_long at) (TooLong at) seen others refl l rest)

more_faults : (n : ℕ) (path : List ℕ) (answer : Answer) (seen : List SeenEntry) (others : List (Option TextFault)) → AreFaults (n + 1) seen others
    → (faults : List (Option TextFault)) × AreFaults n (record { path = path; answer = answer } ∷ seen) faults
more_faults n path (Present bytes) seen others rest =
    let o = some_outcome_of n piece_limit bytes in faults_by n path bytes o.0 seen others o.1 rest
more_faults n path Absent seen others rest = (None ∷ others, no_file n (record { path = path; answer = Absent }) seen others refl rest)
more_faults n path (Folder entries) seen others rest =
    (None ∷ others, no_file n (record { path = path; answer = Folder entries }) seen others refl rest)
more_faults n path Unreadable seen others rest = (None ∷ others, no_file n (record { path = path; answer = Unreadable }) seen others refl rest)
more_faults n path TooLarge seen others rest = (None ∷ others, no_file n (record { path = path; answer = TooLarge }) seen others refl rest)

some_faults : (n : ℕ) (seen : List SeenEntry) → (faults : List (Option TextFault)) × AreFaults n seen faults
some_faults n [] = ([], nothing n)
some_faults n (e ∷ seen) = let others = some_faults (n + 1) seen in more_faults n e.path e.answer seen others.0 others.1

module _ (limits : RunLimits) (options : Options) (seen : List SeenEntry) where
  pub ground_same : (a b : Ground) → IsGround limits options seen a → IsGround limits options seen b → a ≡ b
  ground_same a b p q =
      let unit = p.limits_are ∙ sym q.limits_are in
      let given = p.options_are ∙ sym q.options_are in
      let macros = p.macros_are ∙ sym q.macros_are in
      let entries = p.seen_is ∙ sym q.seen_is in
      let folders = p.folders_are ∙ sym q.folders_are in
      let files = shelved_same 0 seen a.shelf.files b.shelf.files p.shelved q.shelved in
      let faults = faults_same 0 seen a.faults b.faults p.faulty q.faulty in
      λ i. record {
        limits = unit i;
        options = given i;
        macros = macros i;
        seen = entries i;
        shelf = record { folders = folders i; files = files i };
        faults = faults i;
      }

  pub some_ground : (g : Ground) × IsGround limits options seen g
  some_ground =
      let files = some_files 0 seen in
      let faults = some_faults 0 seen in
      let g : Ground = record {
        limits = limits.unit;
        options = options;
        macros = macros_of built_in;
        seen = seen;
        shelf = record { folders = options.folders; files = files.0 };
        faults = faults.0;
      } in (
        g,
        record {
          limits_are = refl;
          options_are = refl;
          macros_are = refl;
          seen_is = refl;
          folders_are = refl;
          shelved = files.1;
          faulty = faults.1;
        },
      )
