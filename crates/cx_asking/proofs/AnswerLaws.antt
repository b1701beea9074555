-- The answer that one path gets by its calls.
use Rattle.std.proofs.Common.{◌≡◌, inl, inr, ⊎_elim, ℕ, ◌+◌, ◌<◌, ◌≤◌, Bool, true, false, cond, ◌&&◌, nat_lt, nat_le, List, [], ◌∷◌, ◌++◌, length, take, Option, Some, None, Result, Ok, Err, IfSome, IfOk, option_map, refl, sym, ap, ◌∙◌, subst, arith}
use Rattle.std.specs.Prelude.{IsFalse, IsSomeAnd, OnErr}
use Rattle.std.proofs.lemmas.Bool.{le-leb, leb-true, ltb-true}
use Rattle.std.proofs.lemmas.Bool.Decides.{nat_tests}
use Rattle.std.proofs.lemmas.List.{length-take, take_all}
use Rattle.cx_base.specs.declared.answers.Answer.{Answer}
use Rattle.cx_base.specs.declared.answers.Answer.TheVariants.{Present, Absent, Folder, Unreadable, TooLarge}
use Rattle.cx_base.specs.declared.answers.Entry.{Entry}
use Rattle.cx_base.specs.declared.answers.Stored.{Stored}
use Rattle.cx_base.specs.declared.errors.Lost.{Lost}
use Rattle.cx_base.specs.declared.errors.Lost.TheVariants.{Failed}
use Rattle.cx_base.specs.declared.file_calls.FileCall.{FileCall}
use Rattle.cx_base.specs.declared.file_calls.FileRequest.TheVariants.{List as ListFolder, Read}
use Rattle.cx_base.specs.Faults.{HasCause}
use Rattle.cx_base.specs.Outside.{FilesState, FilesTold, GivesFile, GivesFolder, ListTells, Notes, ReadTells, file_at}
use Rattle.cx_asking.specs.declared.limits.Limits.{Limits}
use Rattle.cx_asking.specs.declared.purpose.Purpose.TheVariants as purpose
use Rattle.cx_asking.specs.Answers.{Holds, IsBelow, IsKept}
use Rattle.cx_asking.specs.Calls.{Answered, AreCalls, before_read, list_call, read_call}
use Rattle.cx_asking.specs.Shapes.Asks.{IsAnswer, IsCutAt}
use Rattle.cx_asking.specs.Shapes.Steps.{kept_or_large}
use Rattle.cx_asking.specs.Wishes.{is_folder}
use Rattle.cx_asking.proofs.CallLaws.{answered_both, answered_one, call_of, some_then}

-- a file of these first bytes, beside so many that are kept of others

module _ (limits : Limits) (others : ℕ) (bytes : List ℕ) where
  abbrev counts_as : Bool → Bool → Answer
  counts_as b c = cond (b && c) (Present bytes) TooLarge

  is_kept : nat_lt (length bytes) limits.read ≡ true → nat_le (others + length bytes) limits.kept ≡ true → IsKept limits others (length bytes)
  is_kept e f = record { short = ltb-true _ _ e; fits = leb-true _ _ f }

  pub below_limits : IsBelow limits others (kept_or_large limits others bytes)
  below_limits = by (nat_lt (length bytes) limits.read) (nat_le (others + length bytes) limits.kept) refl refl
    where
      by : (b c : Bool) → nat_lt (length bytes) limits.read ≡ b → nat_le (others + length bytes) limits.kept ≡ c → IsBelow limits others (counts_as b c)
      by true true e f = is_kept e f
      by true false e f = tt
      by false true e f = tt
      by false false e f = tt

  -- bytes that are fewer than were read at most are those of the whole file
  whole_file : (file : List ℕ) → bytes ≡ take limits.read file → length bytes < limits.read → file ≡ bytes
  whole_file file e h =
      let n = length-take limits.read file in
      let all : length file ≤ limits.read = omega (arith, ap length e) in
      sym (take_all limits.read file all) ∙ sym e

  -- and so are those of a file that can be kept
  whole_kept : (file : List ℕ) → bytes ≡ take limits.read file → IsKept limits others (length file) → file ≡ bytes
  whole_kept file e h =
      let s = h.short in
      let all : length file ≤ limits.read = omega arith in
      sym (take_all limits.read file all) ∙ sym e

  fails : (b c : Bool) → nat_lt (length bytes) limits.read ≡ b → nat_le (others + length bytes) limits.kept ≡ c → (b && c) ≡ false
      → IsKept limits others (length bytes) → ⊥
  fails b c e f g h =
      let short : nat_lt (length bytes) limits.read ≡ true = le-ltb-true in
      let fits : nat_le (others + length bytes) limits.kept ≡ true = le-leb _ _ h.fits in
      no (sym (ap (λ x. x && c) (sym e ∙ short) ∙ sym f ∙ fits) ∙ g)
    where
      le-ltb-true : nat_lt (length bytes) limits.read ≡ true
      le-ltb-true = let s = h.short in grind (arith, nat_tests)

      no : true ≡ false → ⊥
      no x = cc

  file_holds : (stored : List Stored) (path : List ℕ) → GivesFile stored path limits.read (Some bytes)
      → Holds limits stored others purpose.File path (kept_or_large limits others bytes)
  file_holds stored path gives = at (file_at stored path) refl gives
    where
      too_large : (file : List ℕ) → file_at stored path ≡ Some file → bytes ≡ take limits.read file → (b c : Bool)
          → nat_lt (length bytes) limits.read ≡ b → nat_le (others + length bytes) limits.kept ≡ c → (b && c) ≡ false
          → IsSomeAnd (file_at stored path) (λ f. IsKept limits others (length f) → ⊥)
      too_large file is e b c f g h =
          subst (λ o. IsSomeAnd o (λ f. IsKept limits others (length f) → ⊥)) (sym is)
          (λ k. fails b c f g h (subst (λ t. IsKept limits others (length t)) (whole_kept file e k) k))

      by : (file : List ℕ) → file_at stored path ≡ Some file → bytes ≡ take limits.read file → (b c : Bool)
          → nat_lt (length bytes) limits.read ≡ b → nat_le (others + length bytes) limits.kept ≡ c
          → Holds limits stored others purpose.File path (counts_as b c)
      by file is e true true f g = (is ∙ ap Some (whole_file file e (ltb-true _ _ f)), is_kept f g)
      by file is e true false f g = too_large file is e true false f g refl
      by file is e false true f g = too_large file is e false true f g refl
      by file is e false false f g = too_large file is e false false f g refl

      at : (o : Option (List ℕ)) → file_at stored path ≡ o → Some bytes ≡ option_map (take limits.read) o
          → Holds limits stored others purpose.File path (kept_or_large limits others bytes)
      at None is e = absurd cc
      at (Some file) is e =
          let same : bytes ≡ take limits.read file = cc in
          by file is same (nat_lt (length bytes) limits.read) (nat_le (others + length bytes) limits.kept) refl refl

  calls_of_file : (path : List ℕ) → AreCalls limits.read purpose.File path (kept_or_large limits others bytes) (read_call limits.read path false ∷ [])
  calls_of_file path = by (nat_lt (length bytes) limits.read) (nat_le (others + length bytes) limits.kept)
    where
      by : (b c : Bool) → AreCalls limits.read purpose.File path (counts_as b c) (read_call limits.read path false ∷ [])
      by true true = refl
      by true false = refl
      by false true = refl
      by false false = refl

  pub read_answer : (path : List ℕ) (answer : Answer) (before after : FilesState) → answer ≡ kept_or_large limits others bytes
      → ReadTells before after path limits.read (Ok (Some bytes)) → after.faults ≡ before.faults
      → IsAnswer limits others purpose.File path answer before after
  read_answer path answer before after is tells cause =
      subst (λ a. IsAnswer limits others purpose.File path a before after) (sym is) (record {
        held = some_then before.told
            (λ told. Notes told after path (Read limits.read) (Ok (Some bytes)) × GivesFile told.stored path limits.read (Some bytes))
            (λ told. Holds limits told.stored others purpose.File path (kept_or_large limits others bytes))
            (λ told h. file_holds told.stored path h.1) tells;
        below = below_limits;
        calls = read_call limits.read path false ∷ [];
        own = calls_of_file path;
        answered = answered_one before after path (Read limits.read) (Ok (Some bytes))
            (some_then before.told
            (λ told. Notes told after path (Read limits.read) (Ok (Some bytes)) × GivesFile told.stored path limits.read (Some bytes))
            (λ told. Notes told after path (Read limits.read) (Ok (Some bytes))) (λ told h. h.0) tells)
            cause;
      })

-- a path that is given, where no folder is there

module _ (limits : Limits) (others : ℕ) (path : List ℕ) where
  given_calls : (answer : Answer) (calls : List FileCall) → IsFalse (is_folder answer) → AreCalls limits.read purpose.File path answer calls
      → AreCalls limits.read purpose.Given path answer (list_call path false ∷ calls)
  given_calls (Present bytes) calls f own = ap (λ cs. list_call path false ∷ cs) own
  given_calls Absent calls f own = ap (λ cs. list_call path false ∷ cs) own
  given_calls (Folder entries) calls f own = absurd cc
  given_calls Unreadable calls f own = inr (ap (λ cs. list_call path false ∷ cs) own)
  given_calls TooLarge calls f own = ap (λ cs. list_call path false ∷ cs) own

  given_holds : (stored : List Stored) (answer : Answer) → GivesFolder stored path None → Holds limits stored others purpose.File path answer
      → Holds limits stored others purpose.Given path answer
  given_holds stored (Present bytes) none h = h
  given_holds stored Absent none h = (none, h)
  given_holds stored (Folder entries) none h = h
  given_holds stored Unreadable none h = tt
  given_holds stored TooLarge none h = h

  none_listed : (before middle : FilesState) → ListTells before middle path (Ok None) → middle.faults ≡ before.faults
      → Answered before middle (list_call path false ∷ [])
  none_listed before middle tells cause =
      answered_one {T = Option (List Entry)} before middle path ListFolder (Ok None)
      (some_then before.told (λ told. Notes {T = Option (List Entry)} told middle path ListFolder (Ok None) × GivesFolder told.stored path None)
      (λ told. Notes {T = Option (List Entry)} told middle path ListFolder (Ok None)) (λ told h. h.0) tells)
      cause

  pub given_file : (answer : Answer) (before middle after : FilesState) → IsFalse (is_folder answer)
      → ListTells before middle path (Ok None) → middle.faults ≡ before.faults
      → IsAnswer limits others purpose.File path answer middle after → IsAnswer limits others purpose.Given path answer before after
  given_file answer before middle after f tells cause a = record {
    held = held before.told middle.told tells a.held;
    below = a.below;
    calls = list_call path false ∷ a.calls;
    own = given_calls answer a.calls f a.own;
    answered = answered_both before middle after (list_call path false ∷ []) a.calls (none_listed before middle tells cause) a.answered;
  }
    where
      held : (told middle : Option FilesTold)
          → IfSome told (λ t. (middle ≡ Some (record t { calls = t.calls ++ list_call path false ∷ [] })) × GivesFolder t.stored path None)
          → IfSome middle (λ t. Holds limits t.stored others purpose.File path answer)
          → IfSome told (λ t. Holds limits t.stored others purpose.Given path answer)
      held None middle t h = tt
      held (Some t) None tells h = absurd cc
      held (Some t) (Some u) tells h =
          let same : u ≡ record t { calls = t.calls ++ list_call path false ∷ [] } = cc in
          given_holds t.stored answer tells.1 (subst (λ x. Holds limits x.stored others purpose.File path answer) same h)

  pub given_cut : (before middle after : FilesState) → ListTells before middle path (Ok None) → middle.faults ≡ before.faults
      → IsCutAt purpose.File path middle after → IsCutAt purpose.Given path before after
  given_cut before middle after tells cause cut = record {
    calls = list_call path false ∷ cut.calls;
    begun = inr (ap (λ cs. list_call path false ∷ cs)
        (⊎_elim (λ (e : cut.calls ≡ []). e) (λ (e : cut.calls ≡ before_read purpose.File path). e) cut.begun));
    answered = answered_both before middle after (list_call path false ∷ []) cut.calls (none_listed before middle tells cause) cut.answered;
  }

  -- the same, of what a call gave

  pub given_files : {E : Type 0} (result : Result Answer E) (before middle after : FilesState) (got : Option (List Entry)) → got ≡ None
      → ListTells before middle path (Ok got) → middle.faults ≡ before.faults → IfOk result (λ a. IsFalse (is_folder a))
      → IfOk result (λ a. IsAnswer limits others purpose.File path a middle after)
      → IfOk result (λ a. IsAnswer limits others purpose.Given path a before after)
  given_files (Ok a) before middle after got none tells cause f h =
      given_file a before middle after f (subst (λ o. ListTells before middle path (Ok o)) none tells) cause h
  given_files (Err e) before middle after got none tells cause f h = tt

  pub given_cuts : {T E : Type 0} (result : Result T E) (before middle after : FilesState) (got : Option (List Entry)) → got ≡ None
      → ListTells before middle path (Ok got) → middle.faults ≡ before.faults
      → OnErr result (IsCutAt purpose.File path middle after) → OnErr result (IsCutAt purpose.Given path before after)
  given_cuts (Ok x) before middle after got none tells cause h = tt
  given_cuts (Err e) before middle after got none tells cause h =
      given_cut before middle after (subst (λ o. ListTells before middle path (Ok o)) none tells) cause h

  -- the folder of a path that is given could not be listed
  pub given_unreadable : (before after : FilesState) (lost : Lost) → lost ≡ Failed → ListTells before after path (Err lost)
      → HasCause {T = Option (List Entry)} before.faults after.faults (Err lost) → IsAnswer limits others purpose.Given path Unreadable before after
  given_unreadable before after lost is tells cause = record {
    held = some_then before.told (λ told. Notes {T = Option (List Entry)} told after path ListFolder (Err lost) × Unit {0})
        (λ told. Holds limits told.stored others purpose.Given path Unreadable) (λ told h. tt) tells;
    below = tt;
    calls = list_call path true ∷ [];
    own = inl refl;
    answered = subst (Answered before after) (ap (λ l. call_of {T = Option (List Entry)} path ListFolder (Err l)) is)
        (answered_one {T = Option (List Entry)} before after path ListFolder (Err lost)
        (some_then before.told (λ told. Notes {T = Option (List Entry)} told after path ListFolder (Err lost) × Unit {0})
        (λ told. Notes {T = Option (List Entry)} told after path ListFolder (Err lost)) (λ told h. h.0) tells)
        cause);
  }
