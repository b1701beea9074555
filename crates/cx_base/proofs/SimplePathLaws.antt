-- The components that are found from the front are those that are left of a path.
use Rattle.std.proofs.Common.{◌≡◌, ℕ, ◌-◌, Bool, true, false, List, [], ◌∷◌, ◌++◌, Some, length, take, Bor, refl, sym, ap, ◌∙◌, subst}
use Rattle.std.specs.Prelude.{not, ◌&&◌, if◌then◌else◌, codes}
use native.Mathlib.Numerals.{unary_clauses}
use Rattle.std.specs.List.{slice_get, slice_split, filter, join_with_byte, list_all}
use Rattle.std.proofs.lemmas.Slice.Eq.{bytes_eq-Decides}
use Rattle.cx_base.specs.Folders.{is_slash}
use Rattle.cx_base.specs.Shapes.Simple.{is_plain, are_reduced}
use Rattle.cx_base.specs.Shapes.SimplePath.{ends_plain, texts_of, without_last, with_component, rooted_start}
use Rattle.cx_base.specs.Simple.{is_parent, is_step, before_others, reduced, simple_components, relative_path, is_rooted, simple_path}
use Rattle.cx_base.proofs.SimpleLaws.{and_parts, and_both, after_plain, parent_stays, reduced_same}

prefix_same : (xs l m : List (List ℕ)) → reduced l ≡ reduced m → reduced (xs ++ l) ≡ reduced (xs ++ m)
prefix_same [] l m e = e
prefix_same (x ∷ xs) l m e = ap (before_others x) (prefix_same xs l m e)

cancels : (x c : List ℕ) (rest : List (List ℕ)) → is_parent x ≡ false → is_parent c ≡ true
    → reduced (x ∷ c ∷ rest) ≡ reduced rest
cancels x c rest px pc = ap (before_others x) (parent_stays c (reduced rest) pc) ∙ (rw (pc, px) refl)

pub record LastPlain (left : List (List ℕ)) : Type 0 where
  pub last : List ℕ
  pub is_last : left ≡ without_last left ++ last ∷ []
  pub plain : is_parent last ≡ false

not_false : (b : Bool) → not b ≡ true → b ≡ false
not_false true h = absurd (cc)
not_false false h = refl

last_plain : (left : List (List ℕ)) → ends_plain left ≡ true → LastPlain left
last_plain [] h = absurd (cc)
last_plain (c ∷ []) h = record { last = c; is_last = refl; plain = not_false (is_parent c) h }
last_plain (c ∷ d ∷ ds) h =
    let r = last_plain (d ∷ ds) h in
    record { last = r.last; is_last = ap (λ l. c ∷ l) r.is_last; plain = r.plain }

append_assoc : (xs ys zs : List (List ℕ)) → (xs ++ ys) ++ zs ≡ xs ++ (ys ++ zs)
append_assoc [] ys zs = refl
append_assoc (x ∷ xs) ys zs = ap (λ l. x ∷ l) (append_assoc xs ys zs)

cancels_last : (left : List (List ℕ)) (c : List ℕ) (rest : List (List ℕ)) → LastPlain left → is_parent c ≡ true
    → reduced (left ++ c ∷ rest) ≡ reduced (without_last left ++ rest)
cancels_last left c rest r pc =
    ap (λ l. reduced (l ++ c ∷ rest)) r.is_last
    ∙ ap reduced (append_assoc (without_last left) (r.last ∷ []) (c ∷ rest))
    ∙ prefix_same (without_last left) (r.last ∷ c ∷ rest) rest (cancels r.last c rest r.plain pc)

-- one more component
pub left_step : (left : List (List ℕ)) (c : List ℕ) (rest : List (List ℕ))
    → reduced (left ++ filter is_step (c ∷ rest)) ≡ reduced (with_component left c ++ filter is_step rest)
unfolding with_component
left_step left c rest =
    elim (is_step c) as (λ s. reduced (left ++ (if s then c ∷ filter is_step rest else filter is_step rest))
    ≡ reduced ((if s then (if is_parent c && ends_plain left then without_last left else left ++ c ∷ []) else left) ++ filter is_step rest)) [
      | false ↦ refl
      | true ↦ elim (is_parent c && ends_plain left) as (λ b. (is_parent c && ends_plain left) ≡ b
          → reduced (left ++ c ∷ filter is_step rest) ≡ reduced ((if b then without_last left else left ++ c ∷ []) ++ filter is_step rest)) [
            | true ↦ λ e. let both = and_parts (is_parent c) (ends_plain left) e in
                cancels_last left c (filter is_step rest) (last_plain left both.1) both.0
            | false ↦ λ e. ap reduced (sym (append_assoc left (c ∷ []) (filter is_step rest)))
          ] refl
    ]

all_without_last : (cs : List (List ℕ)) → list_all is_plain cs ≡ true → list_all is_plain (without_last cs) ≡ true
all_without_last [] h = refl
all_without_last (c ∷ []) h = refl
all_without_last (c ∷ d ∷ ds) h =
    let both = and_parts (is_plain c) (list_all is_plain (d ∷ ds)) h in
    and_both (is_plain c) (list_all is_plain (without_last (d ∷ ds))) both.0 (all_without_last (d ∷ ds) both.1)

all_and_one : (cs : List (List ℕ)) (c : List ℕ) → list_all is_plain cs ≡ true → is_plain c ≡ true → list_all is_plain (cs ++ c ∷ []) ≡ true
all_and_one [] c h p = and_both (is_plain c) true p refl
all_and_one (d ∷ ds) c h p =
    let both = and_parts (is_plain d) (list_all is_plain ds) h in
    and_both (is_plain d) (list_all is_plain (ds ++ c ∷ [])) both.0 (all_and_one ds c both.1 p)

not_true_is : (b : Bool) → b ≡ false → not b ≡ true
not_true_is true h = absurd (cc)
not_true_is false h = refl

plain_no_parent : (c : List ℕ) → is_plain c ≡ true → not (is_parent c) ≡ true
plain_no_parent c h = (and_parts (is_step c) (not (is_parent c)) h).1

all_end_plain : (c : List ℕ) (cs : List (List ℕ)) → list_all is_plain (c ∷ cs) ≡ true → ends_plain (c ∷ cs) ≡ true
all_end_plain c [] h = plain_no_parent c (and_parts (is_plain c) true h).0
all_end_plain c (d ∷ ds) h = all_end_plain d ds (and_parts (is_plain c) (list_all is_plain (d ∷ ds)) h).1

Reduced : Bool → List ℕ → List (List ℕ) → Type 0
Reduced b c cs = (if b then are_reduced cs else list_all is_plain (c ∷ cs)) ≡ true

without_reduced : (cs : List (List ℕ)) → are_reduced cs ≡ true → are_reduced (without_last cs) ≡ true
unfolding Reduced
without_reduced [] h = refl
without_reduced (c ∷ []) h = refl
without_reduced (c ∷ d ∷ ds) h =
    elim (is_parent c) as (λ b. Reduced b c (d ∷ ds) → Reduced b c (without_last (d ∷ ds))) [
      | true ↦ λ r. without_reduced (d ∷ ds) r
      | false ↦ λ r. all_without_last (c ∷ d ∷ ds) r
    ] h

plain_after : (cs : List (List ℕ)) (c : List ℕ) → are_reduced cs ≡ true → is_plain c ≡ true → is_parent c ≡ false → are_reduced (cs ++ c ∷ []) ≡ true
unfolding Reduced
plain_after [] c h p e = after_plain c [] e ∙ and_both (is_plain c) true p refl
plain_after (d ∷ ds) c h p e =
    elim (is_parent d) as (λ b. Reduced b d ds → Reduced b d (ds ++ c ∷ [])) [
      | true ↦ λ r. plain_after ds c r p e
      | false ↦ λ r. all_and_one (d ∷ ds) c r p
    ] h

no_end : {A : Type 0} (c : List ℕ) (cs : List (List ℕ)) → list_all is_plain (c ∷ cs) ≡ true → ends_plain (c ∷ cs) ≡ false → A
no_end c cs h e = absurd (let k = all_end_plain c cs h in cc)

parent_after : (cs : List (List ℕ)) (c : List ℕ) → are_reduced cs ≡ true → is_parent c ≡ true → ends_plain cs ≡ false → are_reduced (cs ++ c ∷ []) ≡ true
unfolding Reduced
parent_after [] c h p e = rw p refl
parent_after (d ∷ []) c h p e =
    elim (is_parent d) as (λ b. not b ≡ false → Reduced b d (c ∷ [])) [
      | true ↦ λ n. rw p refl
      | false ↦ λ n. absurd (cc)
    ] e
parent_after (d ∷ f ∷ fs) c h p e =
    elim (is_parent d) as (λ b. Reduced b d (f ∷ fs) → Reduced b d ((f ∷ fs) ++ c ∷ [])) [
      | true ↦ λ r. parent_after (f ∷ fs) c r p e
      | false ↦ λ r. no_end d (f ∷ fs) r e
    ] h

-- what is left is reduced
pub left_form : (left : List (List ℕ)) (c : List ℕ) → are_reduced left ≡ true → are_reduced (with_component left c) ≡ true
unfolding with_component
left_form left c h =
    elim (is_step c) as (λ s. is_step c ≡ s → are_reduced (if s then (if is_parent c && ends_plain left then without_last left else left ++ c ∷ []) else left) ≡ true) [
      | false ↦ λ e. h
      | true ↦ λ s. elim (is_parent c) as (λ b. is_parent c ≡ b → are_reduced (if b && ends_plain left then without_last left else left ++ c ∷ []) ≡ true) [
        | true ↦ λ p. elim (ends_plain left) as (λ b. ends_plain left ≡ b → are_reduced (if b then without_last left else left ++ c ∷ []) ≡ true) [
          | true ↦ λ n. without_reduced left h
          | false ↦ λ n. parent_after left c h p n
        ] refl
        | false ↦ λ p. plain_after left c h (and_both (is_step c) (not (is_parent c)) s (not_true_is (is_parent c) p)) p
      ] refl
    ] refl

-- the components are those that are left of a path, at its end
pub left_is : (left : List (List ℕ)) (path : List ℕ) → are_reduced left ≡ true
    → reduced (filter is_step (slice_split is_slash path)) ≡ reduced (left ++ []) → left ≡ simple_components path
left_is left path h e = sym (e ∙ ap reduced (nothing_more left) ∙ reduced_same left h)
  where
    nothing_more : (xs : List (List ℕ)) → xs ++ [] ≡ xs
    nothing_more [] = refl
    nothing_more (x ∷ xs) = ap (λ l. x ∷ l) (nothing_more xs)

pub simple_path_is : (path : List ℕ) (cs : List (List ℕ)) → cs ≡ simple_components path
    → rooted_start path cs ++ join_with_byte 47 cs ≡ simple_path path
unfolding simple_path
simple_path_is path cs e = subst (λ l. rooted_start path l ++ join_with_byte 47 l ≡ simple_path path) (sym e) (whole (simple_components path))
  where
    whole : (l : List (List ℕ)) → rooted_start path l ++ join_with_byte 47 l ≡ (if is_rooted path then 47 ∷ join_with_byte 47 l else relative_path l)
    whole [] =
        elim (is_rooted path) as (λ b. (if b then codes "/" else codes ".") ++ [] ≡ (if b then 47 ∷ [] else codes ".")) [
          | true ↦ refl
          | false ↦ refl
        ]
    whole (x ∷ xs) =
        elim (is_rooted path) as (λ b. (if b then codes "/" else []) ++ join_with_byte 47 (x ∷ xs) ≡ (if b then 47 ∷ join_with_byte 47 (x ∷ xs) else join_with_byte 47 (x ∷ xs))) [
          | true ↦ refl
          | false ↦ refl
        ]

pub without_is : (l : List (Bor (List ℕ))) → texts_of (take (length l - 1) l) ≡ without_last (texts_of l)
without_is [] = refl
without_is (x ∷ []) = refl
without_is (x ∷ y ∷ ys) =
    let rest = without_is (y ∷ ys) in
    simp unary_clauses (ap (λ t. x.now ∷ t) (simp unary_clauses at rest))

pub ends_is : (l : List (Bor (List ℕ))) (c : Bor (List ℕ)) → Some c ≡ slice_get l (length l - 1)
    → not (is_parent c.now) ≡ ends_plain (texts_of l)
ends_is [] c e = absurd (cc)
ends_is (x ∷ []) c e = ap (λ t. not (is_parent t.now)) (some_one e)
  where
    some_one : {a b : Bor (List ℕ)} → Some a ≡ Some b → a ≡ b
    some_one e = cc
ends_is (x ∷ y ∷ ys) c e = ends_is (y ∷ ys) c (simp unary_clauses (simp unary_clauses at e))

-- components after the first, each with a `/` before it
abbrev pub after_slashes : List (List ℕ) → List ℕ
after_slashes [] = []
after_slashes (c ∷ cs) = 47 ∷ (c ++ after_slashes cs)

pub joined_is : (c : List ℕ) (cs : List (List ℕ)) → join_with_byte 47 (c ∷ cs) ≡ c ++ after_slashes cs
joined_is c [] = nothing_after c
  where
    nothing_after : (xs : List ℕ) → xs ≡ xs ++ []
    nothing_after [] = refl
    nothing_after (x ∷ xs) = ap (λ l. x ∷ l) (nothing_after xs)
joined_is c (d ∷ ds) = ap (λ l. c ++ 47 ∷ l) (joined_is d ds)

pub cancelled : (left : List (List ℕ)) (c : List ℕ) → is_parent c ≡ true → ends_plain left ≡ true
    → with_component left c ≡ without_last left
unfolding with_component
cancelled left c p e = rw (step_is c p, p, e) refl
  where
    step_is : (x : List ℕ) → is_parent x ≡ true → is_step x ≡ true
    step_is x q = subst (λ t. is_step t ≡ true) (sym ((bytes_eq-Decides x (codes "..")).0 q)) refl

-- What holds once a component has been taken.
pub record IsLeft (path : List ℕ) (left : List (List ℕ)) (rest : List ℕ) : Type 0 where
  pub form : are_reduced left ≡ true
  pub all : simple_components path ≡ reduced (left ++ filter is_step (slice_split is_slash rest))

pub takes_one : (path rest more c : List ℕ) (left new : List (List ℕ)) → IsLeft path left rest
    → slice_split is_slash rest ≡ c ∷ slice_split is_slash more → new ≡ with_component left c → IsLeft path new more
takes_one path rest more c left new h e n =
    subst (λ l. IsLeft path l more) (sym n) (record {
      form = left_form left c h.form;
      all = h.all ∙ ap (λ l. reduced (left ++ filter is_step l)) e ∙ left_step left c (slice_split is_slash more);
    })

pub takes_last : (path rest : List ℕ) (left new : List (List ℕ)) → IsLeft path left rest
    → slice_split is_slash rest ≡ rest ∷ [] → new ≡ with_component left rest → new ≡ simple_components path
takes_last path rest left new h e n =
    n ∙ left_is (with_component left rest) path (left_form left rest h.form)
    (h.all ∙ ap (λ l. reduced (left ++ filter is_step l)) e ∙ left_step left rest [])

pub takes_none : (path : List ℕ) → IsLeft path [] path
takes_none path = record { form = refl; all = refl }

pub starts_with_first : (text first : List ℕ) (all : List (List ℕ)) (cs : List (List ℕ)) (new : List ℕ) → all ≡ first ∷ cs
    → new ≡ text ++ first → text ++ join_with_byte 47 all ≡ new ++ after_slashes cs
starts_with_first text first all cs new e n =
    ap (λ l. text ++ join_with_byte 47 l) e ∙ ap (λ l. text ++ l) (joined_is first cs)
    ∙ sym (assoc text first (after_slashes cs)) ∙ ap (λ l. l ++ after_slashes cs) (sym n)
  where
    assoc : (xs ys zs : List ℕ) → (xs ++ ys) ++ zs ≡ xs ++ (ys ++ zs)
    assoc [] ys zs = refl
    assoc (x ∷ xs) ys zs = ap (λ l. x ∷ l) (assoc xs ys zs)
