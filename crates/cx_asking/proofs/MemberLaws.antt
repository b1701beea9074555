-- The members of a folder, found one after another, are those that the definitions give.
use Rattle.std.proofs.Common.{◌≡◌, ℕ, suc, ◌+◌, ◌<◌, ◌≤◌, List, [], ◌∷◌, ◌++◌, true, false, Option, Some, None, refl, sym, ap, ◌∙◌, subst, map, length, take, get_or, fold, arith, slice_get, nat_lt, Bor}
use Rattle.std.proofs.lemmas.List.{append-nil, length-take, take_more, take_all}
use Rattle.std.proofs.lemmas.Grind.{fold-append}
use Rattle.std.proofs.lemmas.Bool.Decides.{nat_tests}
use Rattle.std.proofs.lemmas.Option.{slice_get_past, slice_get_read}
use Rattle.std.specs.Option.{option_and_then, option_to_list}
use Rattle.std.specs.List.{cons_option, filter_map, flat_map}
use Rattle.std.proofs.Common.{Ordering}
use Rattle.std.specs.Ordering.{match_ordering}
use Rattle.std.specs.declared.cmp.Ordering.TheVariants.{Less, Equal, Greater}
use Rattle.std.specs.BTreeSet.{insert_key as insert_in_order}
use Rattle.cx_base.specs.declared.answers.Entry.{Entry}
use Rattle.cx_asking.specs.declared.members.Member.{Member}
use Rattle.cx_asking.specs.Members.{in_order, Numbered, numbered, numbered_cmp}
use Rattle.cx_asking.specs.Shapes.Steps.{member_of, members_of}

-- one more member

past : (i n : ℕ) → nat_lt i n ≡ false → n ≤ i
past i n e = grind (arith, nat_tests, e)

within : (i n : ℕ) → nat_lt i n ≡ true → i < n
within i n e = grind (arith, nat_tests, e)

pub no_entry : (folder : List ℕ) (entries : List Entry) (i : ℕ) (members : List Member)
    → nat_lt i (length entries) ≡ false
    → members ≡ members ++ option_to_list (option_and_then (member_of folder) (slice_get entries i))
no_entry folder entries i members e =
    rw (slice_get_past entries i (past i (length entries) e)) (sym (append-nil members))

entry_at : (entries : List Entry) (i : ℕ) (entry : Entry) → nat_lt i (length entries) ≡ true
    → entry ≡ get_or entries i entry → slice_get entries i ≡ Some entry
entry_at entries i entry e at =
    slice_get_read entries (length entries) i entry refl (within i (length entries) e) at

pub no_member : (folder : List ℕ) (entries : List Entry) (i : ℕ) (members : List Member) (entry : Entry)
    → nat_lt i (length entries) ≡ true → entry ≡ get_or entries i entry
    → member_of folder entry ≡ None
    → members ≡ members ++ option_to_list (option_and_then (member_of folder) (slice_get entries i))
no_member folder entries i members entry e at none =
    rw (entry_at entries i entry e at)
    (subst (λ o. members ≡ members ++ option_to_list o) (sym none) (sym (append-nil members)))

pub one_member : (folder : List ℕ) (entries : List Entry) (i : ℕ) (members : List Member) (entry : Entry)
    (member : Member) (new : List Member)
    → nat_lt i (length entries) ≡ true → entry ≡ get_or entries i entry
    → member_of folder entry ≡ Some member → new ≡ members ++ member ∷ []
    → new ≡ members ++ option_to_list (option_and_then (member_of folder) (slice_get entries i))
one_member folder entries i members entry member new e at is pushed =
    rw (entry_at entries i entry e at)
    (subst (λ o. new ≡ members ++ option_to_list o) (sym is) pushed)

-- the numbers, in order

module _ {A B : Type 0} (f : A → B) (cmp : B → B → Ordering) (k : A) where
  by_order : (o : Ordering) (x : A) (xs inserted : List A) (seen : List B) → map f inserted ≡ seen
      → map f (match_ordering o (k ∷ x ∷ xs) (x ∷ xs) (x ∷ inserted))
      ≡ match_ordering o (f k ∷ f x ∷ map f xs) (f x ∷ map f xs) (f x ∷ seen)
  by_order Less x xs inserted seen e = refl
  by_order Equal x xs inserted seen e = refl
  by_order Greater x xs inserted seen e = ap (λ ys. f x ∷ ys) e

  -- what is seen of a set with a key more
  inserted_in_order : (ks : List A)
      → map f (insert_in_order (λ x y. cmp (f x) (f y)) ks k) ≡ insert_in_order cmp (map f ks) (f k)
  inserted_in_order [] = refl
  inserted_in_order (x ∷ xs) = by_order (cmp (f k) (f x)) x xs _ _ (inserted_in_order xs)

numbered_end : (n : ℕ) (entries : List Entry) (entry : Entry)
    → numbered n (entries ++ entry ∷ []) ≡ numbered n entries ++ (entry.name, n + length entries) ∷ []
unfolding numbered
numbered_end n [] entry = let e : n ≡ n + 0 = omega arith in ap (λ m. (entry.name, m) ∷ []) e
numbered_end n (x ∷ entries) entry =
    let e : (n + 1) + length entries ≡ n + suc (length entries) = omega arith in
    ap (λ ms. (x.name, n) ∷ ms)
    (numbered_end (n + 1) entries entry ∙ ap (λ m. numbered (n + 1) entries ++ (entry.name, m) ∷ []) e)

abbrev Key : Type 0
Key = Bor (List ℕ) × ℕ

abbrev seen_key : Key → Numbered
seen_key k = (k.0.now, k.1)

-- the first so many members, in order
abbrev first_in_order : List Entry → ℕ → List Numbered
first_in_order entries i = fold (insert_in_order numbered_cmp) [] (numbered 0 (take i entries))

numbered_next : (entries : List Entry) (i : ℕ) (entry : Entry)
    → i < length entries → entry ≡ get_or entries i entry
    → numbered 0 (take (i + 1) entries) ≡ numbered 0 (take i entries) ++ (entry.name, i) ∷ []
numbered_next entries i entry below at =
    let e : 0 + length (take i entries) ≡ i = omega (arith, length-take i entries) in
    ap (numbered 0) (take_more entries i entry below ∙ ap (λ x. take i entries ++ x ∷ []) (sym at))
    ∙ numbered_end 0 (take i entries) entry
    ∙ ap (λ m. numbered 0 (take i entries) ++ (entry.name, m) ∷ []) e

pub next_in_order : (keys new : List Key) (entries : List Entry) (i : ℕ) (entry : Entry) (key : Key)
    → map seen_key keys ≡ first_in_order entries i
    → i < length entries → entry ≡ get_or entries i entry → seen_key key ≡ (entry.name, i)
    → new ≡ insert_in_order (λ x y. numbered_cmp (seen_key x) (seen_key y)) keys key
    → map seen_key new ≡ first_in_order entries (i + 1)
next_in_order keys new entries i entry key before below at is inserted =
    ap (map seen_key) inserted ∙ inserted_in_order seen_key numbered_cmp key keys
    ∙ ap (λ ks. insert_in_order numbered_cmp ks (seen_key key)) before
    ∙ ap (insert_in_order numbered_cmp (first_in_order entries i)) is
    ∙ sym (fold-append (insert_in_order numbered_cmp) [] (numbered 0 (take i entries)) ((entry.name, i) ∷ []))
    ∙ ap (fold (insert_in_order numbered_cmp) []) (sym (numbered_next entries i entry below at))

pub all_in_order : (keys : List Key) (entries : List Entry) (i : ℕ)
    → map seen_key keys ≡ first_in_order entries i → length entries ≤ i
    → map seen_key keys ≡ fold (insert_in_order numbered_cmp) [] (numbered 0 entries)
all_in_order keys entries i before past =
    before ∙ ap (λ es. fold (insert_in_order numbered_cmp) [] (numbered 0 es)) (take_all i entries past)

no_members : (entries : List Entry) → [] ≡ first_in_order entries 0
unfolding numbered
no_members [] = refl
no_members (e ∷ es) = refl

pub none_in_order : (keys : List Key) (entries : List Entry) → keys ≡ []
    → map seen_key keys ≡ first_in_order entries 0
none_in_order keys entries e = ap (map seen_key) e ∙ no_members entries

-- the members, one after another

flat_map_mapped : {A B C : Type 0} (h : B → List C) (g : A → B) (xs : List A)
    → flat_map h (map g xs) ≡ flat_map (λ x. h (g x)) xs
flat_map_mapped h g [] = refl
flat_map_mapped h g (x ∷ xs) = ap (λ ys. h (g x) ++ ys) (flat_map_mapped h g xs)

what_is_found : {A B C : Type 0} (h : B → Option C) (g : A → Option B) (xs : List A)
    → flat_map (λ x. option_to_list (option_and_then h (g x))) xs ≡ filter_map h (filter_map g xs)
what_is_found h g [] = refl
what_is_found {A} {B} {C} h g (x ∷ xs) = by (g x) (what_is_found h g xs)
  where
    given : (r : Option C) (ys : List C) (zs : List C) → ys ≡ zs
        → option_to_list r ++ ys ≡ cons_option r zs
    given None ys zs e = e
    given (Some y) ys zs e = ap (λ t. y ∷ t) e

    by : (r : Option B)
        → flat_map (λ x. option_to_list (option_and_then h (g x))) xs ≡ filter_map h (filter_map g xs)
        → option_to_list (option_and_then h r) ++ flat_map (λ x. option_to_list (option_and_then h (g x))) xs
        ≡ filter_map h (cons_option r (filter_map g xs))
    by None e = e
    by (Some y) e = given (h y) _ _ e

pub all_members : (folder : List ℕ) (entries : List Entry) (keys : List Key) (yielded : List (Bor Key))
    (members : List Member)
    → members ≡ flat_map (λ k. option_to_list (option_and_then (member_of folder) (slice_get entries k.now.1))) yielded
    → map (λ k. k.now) yielded ≡ keys
    → map seen_key keys ≡ fold (insert_in_order numbered_cmp) [] (numbered 0 entries)
    → members ≡ members_of folder entries
unfolding members_of in_order
all_members folder entries keys yielded members found all order =
    found ∙ sym (flat_map_mapped (λ k. of (seen_key k)) (λ k. k.now) yielded)
    ∙ ap (flat_map (λ k. of (seen_key k))) all
    ∙ sym (flat_map_mapped of seen_key keys)
    ∙ ap (flat_map of) order
    ∙ what_is_found (member_of folder) (λ m. slice_get entries m.1) (fold (insert_in_order numbered_cmp) [] (numbered 0 entries))
  where
    of : Numbered → List Member
    of m = option_to_list (option_and_then (member_of folder) (slice_get entries m.1))
