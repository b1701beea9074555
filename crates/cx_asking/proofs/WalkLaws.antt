-- What is asked of several things, one after another, and of folders with what is below them.
use Rattle.std.proofs.Common.{◌≡◌, ◌≢◌, ◌⊎◌, inl, inr, ⊎_elim, ℕ, zero, suc, ◌+◌, ◌-◌, ◌<◌, ◌≤◌, Bool, true, false, cond, not, ◌&&◌, nat_lt, List, [], ◌∷◌, ◌++◌, All, Some, None, Result, Ok, Err, IfOk, flat_map, get_or, length, take, drop, refl, sym, ap, ◌∙◌, subst, arith, append-nil}
use Rattle.std.specs.Prelude.{OnErr}
use Rattle.std.proofs.lemmas.Bool.{ltb-false}
use Rattle.std.proofs.lemmas.Grind.{flat_map-append}
use Rattle.std.proofs.lemmas.List.{take-append-drop, take_all, take_more}
use Rattle.cx_base.specs.declared.answers.Entry.{Entry}
use Rattle.cx_base.specs.declared.answers.SeenEntry.{SeenEntry}
use Rattle.cx_base.specs.Outside.{FilesState}
use Rattle.cx_asking.specs.declared.limits.Limits.{Limits}
use Rattle.cx_asking.specs.declared.members.Member.{Member}
use Rattle.cx_asking.specs.declared.purpose.Purpose.{Purpose}
use Rattle.cx_asking.specs.declared.purpose.Purpose.TheVariants as purpose
use Rattle.cx_asking.specs.Asking.{is_open, may_be_asked, text_of}
use Rattle.cx_asking.specs.Shapes.Asks.{Asks, Extends, Gathered, IsCut, IsDone, IsNew, Wants, first_open, is_known}
use Rattle.cx_asking.specs.Shapes.Steps.{member_wishes, members_of, subfolder_wishes}
use Rattle.cx_asking.specs.Wishes.{Wish, below, entries_among, entries_of, folders_in, given_wishes, look_up, up_to_folder, wish}
use Rattle.cx_asking.proofs.AskLaws.{one}
use Rattle.cx_asking.proofs.AsksLaws.{AreAlike, asks_alike, both, cut_alike, cut_first, cut_here, done_already, then_asks, then_cut}
use Rattle.cx_asking.proofs.EarlyLaws.{early_full, early_known}
use Rattle.cx_asking.proofs.SeenLaws.{extends_itself, known_same}
use Rattle.cx_asking.proofs.UnitLaws.{below_by_members}

-- the wants of each of several things, in order
abbrev pub all_of : {X : Type 0} → (X → Wants) → List X → Wants
all_of want xs texts seen = flat_map (λ x. want x texts seen) xs

module _ {X : Type 0} (f : X → List Wish) where
  one_behind : (xs : List X) (i : ℕ) (x : X) → i < length xs → x ≡ get_or xs i x
      → flat_map f (take i xs) ++ f x ≡ flat_map f (take (i + 1) xs)
  one_behind xs i x inside at =
      ap (λ ws. flat_map f (take i xs) ++ ws) (sym (append-nil (f x)))
      ∙ sym (flat_map-append f (take i xs) (x ∷ []))
      ∙ ap (flat_map f) (ap (λ y. take i xs ++ y ∷ []) at ∙ sym (take_more xs i x inside))

  one_within : (xs : List X) (i : ℕ) (x : X) → i < length xs → x ≡ get_or xs i x
      → (flat_map f (take i xs) ++ f x) ++ flat_map f (drop (i + 1) xs) ≡ flat_map f xs
  one_within xs i x inside at =
      ap (λ ws. ws ++ flat_map f (drop (i + 1) xs)) (one_behind xs i x inside at)
      ∙ sym (flat_map-append f (take (i + 1) xs) (drop (i + 1) xs))
      ∙ ap (flat_map f) (take-append-drop (i + 1) xs)

-- what a call gave, by other words

pub asks_said : {E : Type 0} (result : Result Gathered E) (limits : Limits) (some others : Wants) (a : Gathered) (files after : FilesState) → AreAlike some others a
    → IfOk result (λ b. Asks limits some a b files after) → IfOk result (λ b. Asks limits others a b files after)
asks_said (Ok b) limits some others a files after same p = asks_alike limits some others a b files after same p
asks_said (Err e) limits some others a files after same p = tt

pub cut_said : {T E : Type 0} (result : Result T E) (limits : Limits) (some others : Wants) (a : Gathered) (files after : FilesState) → AreAlike some others a
    → OnErr result (IsCut limits some a files after) → OnErr result (IsCut limits others a files after)
cut_said (Ok x) limits some others a files after same p = tt
cut_said (Err e) limits some others a files after same p = cut_alike limits some others a files after same p

module _ {X : Type 0} (limits : Limits) (want : X → Wants) where
  pub none_asked : (xs : List X) (g : Gathered) (files : FilesState) → Asks limits (all_of want (take 0 xs)) g g files files
  none_asked xs g files = done_already limits (all_of want (take 0 xs)) g files (done xs)
    where
      done : (xs : List X) → IsDone limits (all_of want (take 0 xs)) g
      done [] later texts e agree = refl
      done (x ∷ xs) later texts e agree = refl

  pub one_more : (xs : List X) (i : ℕ) (x : X) (a b c : Gathered) (files between after : FilesState) → i < length xs → x ≡ get_or xs i x
      → Asks limits (all_of want (take i xs)) a b files between → Asks limits (want x) b c between after
      → Asks limits (all_of want (take (i + 1) xs)) a c files after
  one_more xs i x a b c files between after inside at p q =
      asks_alike limits (both (all_of want (take i xs)) (want x)) (all_of want (take (i + 1) xs)) a c files after
      (λ later texts e agree. one_behind (λ y. want y texts later.seen) xs i x inside at)
      (then_asks limits (all_of want (take i xs)) (want x) a b c files between after p q)

  pub one_cut : (xs : List X) (i : ℕ) (x : X) (a b : Gathered) (files between after : FilesState) → i < length xs → x ≡ get_or xs i x
      → Asks limits (all_of want (take i xs)) a b files between → IsCut limits (want x) b between after
      → IsCut limits (all_of want xs) a files after
  one_cut xs i x a b files between after inside at p q =
      let front : Wants = both (all_of want (take i xs)) (want x) in
      let back : Wants = all_of want (drop (i + 1) xs) in
      cut_alike limits (both front back) (all_of want xs) a files after
      (λ later texts e agree. one_within (λ y. want y texts later.seen) xs i x inside at)
      (cut_first limits front back a files after (then_cut limits (all_of want (take i xs)) (want x) a b files between after p q))

  pub all_asked : (xs : List X) (i : ℕ) (a b : Gathered) (files after : FilesState) → length xs ≤ i
      → Asks limits (all_of want (take i xs)) a b files after → Asks limits (all_of want xs) a b files after
  all_asked xs i a b files after past p = subst (λ l. Asks limits (all_of want l) a b files after) (take_all i xs past) p

-- what was asked, or can't be, stays

module _ (limits : Limits) (path : List ℕ) where
  -- what was asked is known, or may not be asked
  pub closed : (p : Purpose) (seen : List SeenEntry) → first_open limits seen (wish p path ∷ []) ≡ None
      → (is_known seen path ≡ true) ⊎ (may_be_asked limits seen p ≡ false)
  unfolding is_open
  closed p seen h = by (is_known seen path) (may_be_asked limits seen p) refl refl h
    where
      by : (b c : Bool) → is_known seen path ≡ b → may_be_asked limits seen p ≡ c → cond (not b && c) (Some (wish p path)) None ≡ None
          → (is_known seen path ≡ true) ⊎ (may_be_asked limits seen p ≡ false)
      by true c t u h = inl t
      by false false t u h = inr u
      by false true t u h = absurd cc

  done_closed : (p : Purpose) (g : Gathered) → IsDone limits (one p path) g → (is_known g.seen path ≡ true) ⊎ (may_be_asked limits g.seen p ≡ false)
  done_closed p g d = closed p g.seen (d g (text_of g.shelf) (extends_itself g) (λ q known. refl))

  -- the answer of a subfolder that was asked, or can't be, stays
  pub early_stays : (seen more : List SeenEntry) → first_open limits seen (wish purpose.Folder path ∷ []) ≡ None → All (IsNew seen) more
      → look_up (up_to_folder limits.folders (seen ++ more)) path ≡ look_up (up_to_folder limits.folders seen) path
  early_stays seen more c fresh =
      ⊎_elim (λ (t : is_known seen path ≡ true). early_known limits.folders seen more path t fresh)
      (λ (t : nat_lt (length (folders_in seen)) limits.folders ≡ false). early_full limits.folders seen more path (ltb-false _ _ t))
      (closed purpose.Folder seen c)

  pub entries_stay : (g later : Gathered) → IsDone limits (one purpose.Folder path) g → Extends g later
      → entries_among limits.folders later.seen path ≡ entries_among limits.folders g.seen path
  unfolding entries_among
  entries_stay g later d e =
      ap (λ s. entries_among limits.folders s path) e.seen
      ∙ ap entries_of (early_stays g.seen e.more (d g (text_of g.shelf) (extends_itself g) (λ q known. refl)) e.fresh)

  -- and so do those of a path that is given
  pub given_stay : (g later : Gathered) → IsDone limits (one purpose.Given path) g → Extends g later
      → entries_of (look_up later.seen path) ≡ entries_of (look_up g.seen path)
  given_stay g later d e =
      ap (λ s. entries_of (look_up s path)) e.seen
      ∙ ap entries_of (known_same g.seen e.more path
      (⊎_elim (λ (t : is_known g.seen path ≡ true). t) (λ (t : true ≡ false). absurd cc) (done_closed purpose.Given g d)))

-- a folder, and then what is below it

abbrev pub of_member : Limits → ℕ → Member → Wants
of_member limits depth m texts seen = member_wishes depth limits.folders seen m

module _ (limits : Limits) (depth : ℕ) (p : Purpose) (path : List ℕ) (entries : List SeenEntry → List Entry) where
  abbrev pub lower : Wants
  lower texts seen = below depth limits.folders seen path (entries seen)

  same_below : (members : List Member) (b : Gathered) → ((later : Gathered) → Extends b later → entries later.seen ≡ entries b.seen)
      → members ≡ members_of path (entries b.seen) → AreAlike (all_of (of_member limits depth) members) lower b
  same_below members b stay are later texts e agree =
      ap (flat_map (member_wishes depth limits.folders later.seen)) are
      ∙ sym (below_by_members limits.folders later.seen depth path (entries b.seen))
      ∙ ap (below depth limits.folders later.seen path) (sym (stay later e))

  pub folder_asks : (members : List Member) (a b c : Gathered) (files between after : FilesState)
      → ((later : Gathered) → Extends b later → entries later.seen ≡ entries b.seen) → members ≡ members_of path (entries b.seen)
      → Asks limits (one p path) a b files between → Asks limits (all_of (of_member limits depth) members) b c between after
      → Asks limits (both (one p path) lower) a c files after
  folder_asks members a b c files between after stay are asks more =
      then_asks limits (one p path) lower a b c files between after asks
      (asks_alike limits (all_of (of_member limits depth) members) lower b c between after (same_below members b stay are) more)

  pub folder_cut : (members : List Member) (a b : Gathered) (files between after : FilesState)
      → ((later : Gathered) → Extends b later → entries later.seen ≡ entries b.seen) → members ≡ members_of path (entries b.seen)
      → Asks limits (one p path) a b files between → IsCut limits (all_of (of_member limits depth) members) b between after
      → IsCut limits (both (one p path) lower) a files after
  folder_cut members a b files between after stay are asks more =
      then_cut limits (one p path) lower a b files between after asks
      (cut_alike limits (all_of (of_member limits depth) members) lower b between after (same_below members b stay are) more)

  pub folder_first : (a : Gathered) (files after : FilesState) → IsCut limits (one p path) a files after → IsCut limits (both (one p path) lower) a files after
  folder_first a files after cut = cut_first limits (one p path) lower a files after cut

  pub folder_between : (a b : Gathered) (files between : FilesState) → Asks limits (one p path) a b files between
      → IsCut limits (both (one p path) lower) a files between
  folder_between a b files between asks = then_cut limits (one p path) lower a b files between between asks (cut_here limits lower b between)

-- a subfolder

abbrev pub of_subfolder : Limits → ℕ → List ℕ → Wants
of_subfolder limits depth path texts seen = subfolder_wishes depth limits.folders seen path

module _ (limits : Limits) (path : List ℕ) where
  pub no_subfolder : (depth : ℕ) (g : Gathered) (files : FilesState) → depth ≡ 0 → Asks limits (of_subfolder limits depth path) g g files files
  unfolding subfolder_wishes
  no_subfolder depth g files e =
      subst (λ d. Asks limits (of_subfolder limits d path) g g files files) (sym e)
      (done_already limits (of_subfolder limits 0 path) g files (λ later texts l agree. refl))

  abbrev among : List SeenEntry → List Entry
  among seen = entries_among limits.folders seen path

  -- a folder and what is below it, down to one less
  as_subfolder : (depth : ℕ) → depth ≢ 0 → (a : Gathered) → AreAlike (both (one purpose.Folder path) (lower limits (depth - 1) purpose.Folder path among)) (of_subfolder limits depth path) a
  unfolding subfolder_wishes
  as_subfolder zero never a later texts l agree = absurd (never refl)
  as_subfolder (suc depth) never a later texts l agree =
      let e : suc depth - 1 ≡ depth = omega arith in
      ap (λ d. wish purpose.Folder path ∷ below d limits.folders later.seen path (among later.seen)) e

  pub subfolder_asks : (depth : ℕ) (members : List Member) (a b c : Gathered) (files between after : FilesState) → depth ≢ 0
      → members ≡ members_of path (entries_among limits.folders b.seen path)
      → Asks limits (one purpose.Folder path) a b files between → Asks limits (all_of (of_member limits (depth - 1)) members) b c between after
      → Asks limits (of_subfolder limits depth path) a c files after
  subfolder_asks depth members a b c files between after never are asks more =
      asks_alike limits (both (one purpose.Folder path) (lower limits (depth - 1) purpose.Folder path among)) (of_subfolder limits depth path) a c files after
      (as_subfolder depth never a)
      (folder_asks limits (depth - 1) purpose.Folder path among members a b c files between after
      (λ later e. entries_stay limits path b later asks.done e) are asks more)

  pub subfolder_cut : (depth : ℕ) (members : List Member) (a b : Gathered) (files between after : FilesState) → depth ≢ 0
      → members ≡ members_of path (entries_among limits.folders b.seen path)
      → Asks limits (one purpose.Folder path) a b files between → IsCut limits (all_of (of_member limits (depth - 1)) members) b between after
      → IsCut limits (of_subfolder limits depth path) a files after
  subfolder_cut depth members a b files between after never are asks more =
      cut_alike limits (both (one purpose.Folder path) (lower limits (depth - 1) purpose.Folder path among)) (of_subfolder limits depth path) a files after
      (as_subfolder depth never a)
      (folder_cut limits (depth - 1) purpose.Folder path among members a b files between after
      (λ later e. entries_stay limits path b later asks.done e) are asks more)

  pub subfolder_first : (depth : ℕ) (a : Gathered) (files after : FilesState) → depth ≢ 0 → IsCut limits (one purpose.Folder path) a files after
      → IsCut limits (of_subfolder limits depth path) a files after
  subfolder_first depth a files after never cut =
      cut_alike limits (both (one purpose.Folder path) (lower limits (depth - 1) purpose.Folder path among)) (of_subfolder limits depth path) a files after
      (as_subfolder depth never a) (folder_first limits (depth - 1) purpose.Folder path among a files after cut)

  pub subfolder_between : (depth : ℕ) (a b : Gathered) (files between : FilesState) → depth ≢ 0 → Asks limits (one purpose.Folder path) a b files between
      → IsCut limits (of_subfolder limits depth path) a files between
  subfolder_between depth a b files between never asks =
      cut_alike limits (both (one purpose.Folder path) (lower limits (depth - 1) purpose.Folder path among)) (of_subfolder limits depth path) a files between
      (as_subfolder depth never a) (folder_between limits (depth - 1) purpose.Folder path among a b files between asks)

  -- the same, of what a call gave

  pub subfolder_said : {E : Type 0} (result : Result Gathered E) (depth : ℕ) (members : List Member) (a b : Gathered) (files between after : FilesState) → depth ≢ 0
      → members ≡ members_of path (entries_among limits.folders b.seen path) → Asks limits (one purpose.Folder path) a b files between
      → IfOk result (λ c. Asks limits (all_of (of_member limits (depth - 1)) members) b c between after)
      → IfOk result (λ c. Asks limits (of_subfolder limits depth path) a c files after)
  subfolder_said (Ok c) depth members a b files between after never are asks more = subfolder_asks depth members a b c files between after never are asks more
  subfolder_said (Err e) depth members a b files between after never are asks more = tt

  pub subfolder_cut_said : {T E : Type 0} (result : Result T E) (depth : ℕ) (members : List Member) (a b : Gathered) (files between after : FilesState) → depth ≢ 0
      → members ≡ members_of path (entries_among limits.folders b.seen path) → Asks limits (one purpose.Folder path) a b files between
      → OnErr result (IsCut limits (all_of (of_member limits (depth - 1)) members) b between after)
      → OnErr result (IsCut limits (of_subfolder limits depth path) a files after)
  subfolder_cut_said (Ok x) depth members a b files between after never are asks more = tt
  subfolder_cut_said (Err e) depth members a b files between after never are asks more = subfolder_cut depth members a b files between after never are asks more

-- a path that is given

abbrev pub of_given : Limits → List ℕ → Wants
of_given limits path texts seen = given_wishes limits seen path

module _ (limits : Limits) (path : List ℕ) where
  abbrev answered : List SeenEntry → List Entry
  answered seen = entries_of (look_up seen path)

  as_given : (depth : ℕ) → depth ≡ limits.depth - 1 → (a : Gathered) → AreAlike (both (one purpose.Given path) (lower limits depth purpose.Given path answered)) (of_given limits path) a
  unfolding given_wishes
  as_given depth e a later texts l agree =
      ap (λ d. wish purpose.Given path ∷ below d limits.folders later.seen path (answered later.seen)) e

  pub given_asks : (depth : ℕ) (members : List Member) (a b c : Gathered) (files between after : FilesState) → depth ≡ limits.depth - 1
      → members ≡ members_of path (entries_of (look_up b.seen path))
      → Asks limits (one purpose.Given path) a b files between → Asks limits (all_of (of_member limits depth) members) b c between after
      → Asks limits (of_given limits path) a c files after
  given_asks depth members a b c files between after e are asks more =
      asks_alike limits (both (one purpose.Given path) (lower limits depth purpose.Given path answered)) (of_given limits path) a c files after
      (as_given depth e a)
      (folder_asks limits depth purpose.Given path answered members a b c files between after
      (λ later l. given_stay limits path b later asks.done l) are asks more)

  pub given_cut_below : (depth : ℕ) (members : List Member) (a b : Gathered) (files between after : FilesState) → depth ≡ limits.depth - 1
      → members ≡ members_of path (entries_of (look_up b.seen path))
      → Asks limits (one purpose.Given path) a b files between → IsCut limits (all_of (of_member limits depth) members) b between after
      → IsCut limits (of_given limits path) a files after
  given_cut_below depth members a b files between after e are asks more =
      cut_alike limits (both (one purpose.Given path) (lower limits depth purpose.Given path answered)) (of_given limits path) a files after
      (as_given depth e a)
      (folder_cut limits depth purpose.Given path answered members a b files between after
      (λ later l. given_stay limits path b later asks.done l) are asks more)

  pub given_first : (a : Gathered) (files after : FilesState) → IsCut limits (one purpose.Given path) a files after → IsCut limits (of_given limits path) a files after
  given_first a files after cut =
      cut_alike limits (both (one purpose.Given path) (lower limits (limits.depth - 1) purpose.Given path answered)) (of_given limits path) a files after
      (as_given (limits.depth - 1) refl a) (folder_first limits (limits.depth - 1) purpose.Given path answered a files after cut)

  pub given_between : (a b : Gathered) (files between : FilesState) → Asks limits (one purpose.Given path) a b files between
      → IsCut limits (of_given limits path) a files between
  given_between a b files between asks =
      cut_alike limits (both (one purpose.Given path) (lower limits (limits.depth - 1) purpose.Given path answered)) (of_given limits path) a files between
      (as_given (limits.depth - 1) refl a) (folder_between limits (limits.depth - 1) purpose.Given path answered a b files between asks)

  -- the same, of what a call gave

  pub given_said : {E : Type 0} (result : Result Gathered E) (depth : ℕ) (members : List Member) (a b : Gathered) (files between after : FilesState) → depth ≡ limits.depth - 1
      → members ≡ members_of path (entries_of (look_up b.seen path)) → Asks limits (one purpose.Given path) a b files between
      → IfOk result (λ c. Asks limits (all_of (of_member limits depth) members) b c between after)
      → IfOk result (λ c. Asks limits (of_given limits path) a c files after)
  given_said (Ok c) depth members a b files between after deep are asks more = given_asks depth members a b c files between after deep are asks more
  given_said (Err e) depth members a b files between after deep are asks more = tt

  pub given_cut_said : {T E : Type 0} (result : Result T E) (depth : ℕ) (members : List Member) (a b : Gathered) (files between after : FilesState) → depth ≡ limits.depth - 1
      → members ≡ members_of path (entries_of (look_up b.seen path)) → Asks limits (one purpose.Given path) a b files between
      → OnErr result (IsCut limits (all_of (of_member limits depth) members) b between after)
      → OnErr result (IsCut limits (of_given limits path) a files after)
  given_cut_said (Ok x) depth members a b files between after deep are asks more = tt
  given_cut_said (Err e) depth members a b files between after deep are asks more = given_cut_below depth members a b files between after deep are asks more

-- a member of a folder

module _ (limits : Limits) (depth : ℕ) (m : Member) where
  pub as_folder : m.folder ≡ true → (a : Gathered) → AreAlike (of_subfolder limits depth m.path) (of_member limits depth m) a
  unfolding member_wishes
  as_folder t a later texts l agree =
      ap (λ b. cond b (subfolder_wishes depth limits.folders later.seen m.path) (wish purpose.File m.path ∷ [])) (sym t)

  pub as_file : m.folder ≡ false → (a : Gathered) → AreAlike (one purpose.File m.path) (of_member limits depth m) a
  unfolding member_wishes
  as_file t a later texts l agree =
      ap (λ b. cond b (subfolder_wishes depth limits.folders later.seen m.path) (wish purpose.File m.path ∷ [])) (sym t)
