-- A path is its own simple path exactly where its components from the front are of the simple form.
use Rattle.std.proofs.Common.{◌≡◌, ℕ, Bool, true, false, List, [], ◌∷◌, ◌++◌, ◌⊎◌, ⊎_elim, inl, inr, drop, refl, sym, ap, ◌∙◌, subst}
use Rattle.std.specs.Prelude.{not, ◌&&◌, ◌||◌, ◌==◌, if◌then◌else◌, bytes_eq, codes, nat_eq}
use Rattle.std.specs.List.{slice_split, filter, join_with_byte, list_all, onto_first, starts_with}
use Rattle.std.proofs.lemmas.Bool.Decides.{Decides-eqb}
use Rattle.std.proofs.lemmas.List.Splits.{join_with_byte-slice_split}
use Rattle.std.proofs.lemmas.Slice.Eq.{bytes_eq-Decides}
use Rattle.cx_base.specs.Folders.{is_slash}
use Rattle.cx_base.specs.Shapes.Simple.{is_plain, are_reduced, has_simple_form}
use Rattle.cx_base.specs.Simple.{is_parent, is_step, before_others, reduced, simple_components, relative_path, is_rooted, simple_path, is_simple}

pub and_parts : (a b : Bool) → (a && b) ≡ true → (a ≡ true) × (b ≡ true)
and_parts true b h = (refl, h)
and_parts false b h = absurd (cc)

pub and_both : (a b : Bool) → a ≡ true → b ≡ true → (a && b) ≡ true
and_both true b e h = h
and_both false b e h = absurd (cc)

not_true : (a : Bool) → not a ≡ true → a ≡ false
not_true true h = absurd (cc)
not_true false h = refl

or_last : (a b : Bool) → b ≡ true → (a || b) ≡ true
or_last true b h = refl
or_last false b h = h

or_first : (a b : Bool) → a ≡ true → (a || b) ≡ true
or_first true b h = refl
or_first false b h = absurd (cc)

same_tests : (a b : Bool) → (a ≡ true → b ≡ true) → (b ≡ true → a ≡ true) → a ≡ b
same_tests true b f g = sym (f refl)
same_tests false true f g = g refl
same_tests false false f g = refl

-- a fact of each component
pub Each : (List ℕ → Type 0) → List (List ℕ) → Type 0
Each P [] = Unit {0}
Each P (first ∷ rest) = P first × Each P rest

pub IsStep : List ℕ → Type 0
IsStep component = is_step component ≡ true

pub HasNoSlash : List ℕ → Type 0
HasNoSlash [] = Unit {0}
HasNoSlash (b ∷ bs) = (is_slash b ≡ false) × HasNoSlash bs

-- what is not cancelled
pub parent_stays : (component : List ℕ) (others : List (List ℕ)) → is_parent component ≡ true
    → before_others component others ≡ component ∷ others
parent_stays component [] e = refl
parent_stays component (next ∷ others) e =
    elim (is_parent next) as (λ b. (if b && not (is_parent component) then others else component ∷ next ∷ others) ≡ component ∷ next ∷ others) [
      | true ↦ rw e refl
      | false ↦ refl
    ]

next_stays : (component next : List ℕ) (others : List (List ℕ)) → is_parent next ≡ false
    → before_others component (next ∷ others) ≡ component ∷ next ∷ others
next_stays component next others e = rw e refl

plain_same : (cs : List (List ℕ)) → list_all is_plain cs ≡ true → reduced cs ≡ cs
plain_same [] h = refl
plain_same (c ∷ []) h = refl
plain_same (c ∷ d ∷ ds) h =
    let rest = (and_parts (is_plain c) (list_all is_plain (d ∷ ds)) h).1 in
    let plain = (and_parts (is_plain d) (list_all is_plain ds) rest).0 in
    ap (before_others c) (plain_same (d ∷ ds) rest)
    ∙ next_stays c d ds (not_true (is_parent d) (and_parts (is_step d) (not (is_parent d)) plain).1)

-- components of the simple form lose nothing
pub reduced_same : (cs : List (List ℕ)) → are_reduced cs ≡ true → reduced cs ≡ cs
reduced_same [] h = refl
reduced_same (c ∷ cs) h =
    elim (is_parent c) as (λ b. is_parent c ≡ b → (if b then are_reduced cs else list_all is_plain (c ∷ cs)) ≡ true → reduced (c ∷ cs) ≡ c ∷ cs) [
      | true ↦ λ e r. ap (before_others c) (reduced_same cs r) ∙ parent_stays c cs e
      | false ↦ λ e r. plain_same (c ∷ cs) r
    ] refl h

pub parent_step : (c : List ℕ) → is_parent c ≡ true → IsStep c
unfolding IsStep
parent_step c e = subst (λ t. is_step t ≡ true) (sym ((bytes_eq-Decides c (codes "..")).0 e)) refl

plain_steps : (cs : List (List ℕ)) → list_all is_plain cs ≡ true → Each IsStep cs
unfolding Each IsStep
plain_steps [] h = tt
plain_steps (c ∷ cs) h =
    let both = and_parts (is_plain c) (list_all is_plain cs) h in
    ((and_parts (is_step c) (not (is_parent c)) both.0).0, plain_steps cs both.1)

reduced_steps : (cs : List (List ℕ)) → are_reduced cs ≡ true → Each IsStep cs
unfolding Each
reduced_steps [] h = tt
reduced_steps (c ∷ cs) h =
    elim (is_parent c) as (λ b. is_parent c ≡ b → (if b then are_reduced cs else list_all is_plain (c ∷ cs)) ≡ true → Each IsStep (c ∷ cs)) [
      | true ↦ λ e r. (parent_step c e, reduced_steps cs r)
      | false ↦ λ e r. plain_steps (c ∷ cs) r
    ] refl h

steps_same : (cs : List (List ℕ)) → Each IsStep cs → filter is_step cs ≡ cs
unfolding Each IsStep
steps_same [] h = refl
steps_same (c ∷ cs) h = rw (h.0, steps_same cs h.1) refl

left_same : (cs : List (List ℕ)) → are_reduced cs ≡ true → reduced (filter is_step cs) ≡ cs
left_same cs h = ap reduced (steps_same cs (reduced_steps cs h)) ∙ reduced_same cs h

-- what is left of components is of the simple form
pub filter_steps : (cs : List (List ℕ)) → Each IsStep (filter is_step cs)
unfolding Each IsStep
filter_steps [] = tt
filter_steps (c ∷ cs) =
    elim (is_step c) as (λ b. is_step c ≡ b → Each IsStep (if b then c ∷ filter is_step cs else filter is_step cs)) [
      | true ↦ λ e. (e, filter_steps cs)
      | false ↦ λ e. filter_steps cs
    ] refl

pub after_parent : (c : List ℕ) (cs : List (List ℕ)) → is_parent c ≡ true → are_reduced (c ∷ cs) ≡ are_reduced cs
after_parent c cs e = rw e refl

pub after_plain : (c : List ℕ) (cs : List (List ℕ)) → is_parent c ≡ false → are_reduced (c ∷ cs) ≡ list_all is_plain (c ∷ cs)
after_plain c cs e = rw e refl

pub step_plain : (c : List ℕ) → IsStep c → is_parent c ≡ false → is_plain c ≡ true
unfolding IsStep
step_plain c h e = rw (h, e) refl

reduced_before : (c : List ℕ) (cs : List (List ℕ)) → IsStep c → are_reduced cs ≡ true → are_reduced (before_others c cs) ≡ true
reduced_before c [] h r =
    elim (is_parent c) as (λ b. is_parent c ≡ b → are_reduced (c ∷ []) ≡ true) [
      | true ↦ λ e. after_parent c [] e
      | false ↦ λ e. after_plain c [] e ∙ and_both (is_plain c) true (step_plain c h e) refl
    ] refl
reduced_before c (d ∷ ds) h r =
    elim (is_parent c) as (λ b. is_parent c ≡ b → are_reduced (if is_parent d && not b then ds else c ∷ d ∷ ds) ≡ true) [
      | true ↦ λ e. elim (is_parent d) as (λ a. are_reduced (if a && false then ds else c ∷ d ∷ ds) ≡ true) [
        | true ↦ after_parent c (d ∷ ds) e ∙ r
        | false ↦ after_parent c (d ∷ ds) e ∙ r
      ]
      | false ↦ λ e. elim (is_parent d) as (λ a. is_parent d ≡ a → are_reduced (if a && true then ds else c ∷ d ∷ ds) ≡ true) [
        | true ↦ λ p. sym (after_parent d ds p) ∙ r
        | false ↦ λ p. after_plain c (d ∷ ds) e
            ∙ and_both (is_plain c) (list_all is_plain (d ∷ ds)) (step_plain c h e) (sym (after_plain d ds p) ∙ r)
      ] refl
    ] refl

reduced_is : (cs : List (List ℕ)) → Each IsStep cs → are_reduced (reduced cs) ≡ true
unfolding Each
reduced_is [] h = refl
reduced_is (c ∷ cs) h = reduced_before c (reduced cs) h.0 (reduced_is cs h.1)

-- no component has a slash
onto_no_slash : (b : ℕ) (l : List (List ℕ)) → is_slash b ≡ false → Each HasNoSlash l → Each HasNoSlash (onto_first b l)
unfolding Each HasNoSlash
onto_no_slash b [] e h = ((e, tt), tt)
onto_no_slash b (first ∷ rest) e h = ((e, h.0), h.1)

split_no_slash : (t : List ℕ) → Each HasNoSlash (slice_split is_slash t)
unfolding Each HasNoSlash
split_no_slash [] = (tt, tt)
split_no_slash (b ∷ bs) =
    elim (is_slash b) as (λ s. is_slash b ≡ s → Each HasNoSlash (if s then [] ∷ slice_split is_slash bs else onto_first b (slice_split is_slash bs))) [
      | true ↦ λ e. (tt, split_no_slash bs)
      | false ↦ λ e. onto_no_slash b (slice_split is_slash bs) e (split_no_slash bs)
    ] refl

filter_each : (P : List ℕ → Type 0) (cs : List (List ℕ)) → Each P cs → Each P (filter is_step cs)
unfolding Each
filter_each P [] h = tt
filter_each P (c ∷ cs) h =
    elim (is_step c) as (λ b. Each P (if b then c ∷ filter is_step cs else filter is_step cs)) [
      | true ↦ (h.0, filter_each P cs h.1)
      | false ↦ filter_each P cs h.1
    ]

before_each : (P : List ℕ → Type 0) (c : List ℕ) (cs : List (List ℕ)) → P c → Each P cs → Each P (before_others c cs)
unfolding Each
before_each P c [] p h = (p, tt)
before_each P c (d ∷ ds) p h =
    elim (is_parent d && not (is_parent c)) as (λ b. Each P (if b then ds else c ∷ d ∷ ds)) [
      | true ↦ h.1
      | false ↦ (p, h)
    ]

pub reduced_each : (P : List ℕ → Type 0) (cs : List (List ℕ)) → Each P cs → Each P (reduced cs)
unfolding Each
reduced_each P [] h = tt
reduced_each P (c ∷ cs) h = before_each P c (reduced cs) h.0 (reduced_each P cs h.1)

-- components without slashes, joined and split again, are the same
split_whole : (c : List ℕ) → HasNoSlash c → slice_split is_slash c ≡ c ∷ []
unfolding HasNoSlash
split_whole [] h = refl
split_whole (b ∷ bs) h = rw (h.0, split_whole bs h.1) refl

split_before : (c rest : List ℕ) → HasNoSlash c → slice_split is_slash (c ++ 47 ∷ rest) ≡ c ∷ slice_split is_slash rest
unfolding HasNoSlash
split_before [] rest h = refl
split_before (b ∷ bs) rest h = rw (h.0, split_before bs rest h.1) refl

pub split_join : (c : List ℕ) (cs : List (List ℕ)) → Each HasNoSlash (c ∷ cs) → slice_split is_slash (join_with_byte 47 (c ∷ cs)) ≡ c ∷ cs
unfolding Each
split_join c [] h = split_whole c h.0
split_join c (d ∷ ds) h =
    split_before c (join_with_byte 47 (d ∷ ds)) h.0 ∙ ap (λ l. c ∷ l) (split_join d ds h.1)

-- the components that are left of a path
pub left_reduced : (path : List ℕ) → are_reduced (simple_components path) ≡ true
left_reduced path = reduced_is (filter is_step (slice_split is_slash path)) (filter_steps (slice_split is_slash path))

pub left_no_slash : (path : List ℕ) → Each HasNoSlash (simple_components path)
left_no_slash path =
    reduced_each HasNoSlash (filter is_step (slice_split is_slash path))
    (filter_each HasNoSlash (slice_split is_slash path) (split_no_slash path))

-- a path that begins with `/`
pub rooted_is : (path : List ℕ) → is_rooted path ≡ true → path ≡ 47 ∷ drop 1 path
rooted_is [] e = absurd (cc)
rooted_is (b ∷ bs) e =
    ap (λ n. n ∷ bs) (sym ((Decides-eqb 47 b).0 (and_parts (47 == b) (starts_with nat_eq bs []) e).0))

onto_relative : (b : ℕ) (l : List (List ℕ)) → relative_path (onto_first b l) ≡ join_with_byte 47 (onto_first b l)
onto_relative b [] = refl
onto_relative b (first ∷ rest) = refl

split_relative : (path : List ℕ) → relative_path (slice_split is_slash path) ≡ join_with_byte 47 (slice_split is_slash path)
split_relative [] = refl
split_relative (b ∷ bs) =
    elim (is_slash b) as (λ s. relative_path (if s then [] ∷ slice_split is_slash bs else onto_first b (slice_split is_slash bs))
    ≡ join_with_byte 47 (if s then [] ∷ slice_split is_slash bs else onto_first b (slice_split is_slash bs))) [
      | true ↦ refl
      | false ↦ onto_relative b (slice_split is_slash bs)
    ]

-- a path of the simple form is its own simple path
pub rooted_same : (rest : List ℕ) → are_reduced (slice_split is_slash rest) ≡ true → simple_path (47 ∷ rest) ≡ 47 ∷ rest
unfolding simple_path
rooted_same rest h =
    ap (λ l. 47 ∷ join_with_byte 47 l) (left_same (slice_split is_slash rest) h)
    ∙ ap (λ l. 47 ∷ l) (join_with_byte-slice_split 47 rest)

pub relative_same : (path : List ℕ) → is_rooted path ≡ false → are_reduced (slice_split is_slash path) ≡ true → simple_path path ≡ path
unfolding simple_path
relative_same path e h =
    rw e (ap relative_path (left_same (slice_split is_slash path) h) ∙ split_relative path ∙ join_with_byte-slice_split 47 path)

Form : Bool → List ℕ → Type 0
Form b path = (if b then are_reduced (slice_split is_slash (drop 1 path)) else are_reduced (slice_split is_slash path)) ≡ true

form_same : (path : List ℕ) → Form (is_rooted path) path → simple_path path ≡ path
unfolding Form
form_same path h =
    elim (is_rooted path) as (λ b. is_rooted path ≡ b → Form b path → simple_path path ≡ path) [
      | true ↦ λ e f. let is = rooted_is path e in
          subst (λ t. simple_path t ≡ t) (sym is) (rooted_same (drop 1 path) f)
      | false ↦ λ e f. relative_same path e f
    ] refl h

pub dot_same : simple_path (codes ".") ≡ codes "."
unfolding simple_path
dot_same = refl

pub root_same : simple_path (codes "/") ≡ codes "/"
unfolding simple_path
root_same = refl

or_cases : (a b : Bool) (P : Type 0) → (a ≡ true → P) → (b ≡ true → P) → (a || b) ≡ true → P
or_cases true b P f g h = f refl
or_cases false b P f g h = g h

simple_from_form : (path : List ℕ) → has_simple_form path ≡ true → is_simple path ≡ true
unfolding has_simple_form Form
simple_from_form path h =
    let same : simple_path path ≡ path =
    or_cases (bytes_eq path (codes ".") || bytes_eq path (codes "/")) _ (simple_path path ≡ path)
    (or_cases (bytes_eq path (codes ".")) (bytes_eq path (codes "/")) (simple_path path ≡ path)
    (λ e. subst (λ t. simple_path t ≡ t) (sym ((bytes_eq-Decides path (codes ".")).0 e)) dot_same)
    (λ e. subst (λ t. simple_path t ≡ t) (sym ((bytes_eq-Decides path (codes "/")).0 e)) root_same))
    (λ f. form_same path f) h in
    (bytes_eq-Decides path (simple_path path)).1 (sym same)

-- a path that is its own simple path is of the simple form
pub joined_form : (rest : List ℕ) (left : List (List ℕ)) → Each HasNoSlash left → are_reduced left ≡ true
    → rest ≡ join_with_byte 47 left → (rest ≡ []) ⊎ (are_reduced (slice_split is_slash rest) ≡ true)
joined_form rest [] n r e = inl e
joined_form rest (c ∷ cs) n r e = inr (subst (λ t. are_reduced (slice_split is_slash t) ≡ true) (sym e) (subst (λ l. are_reduced l ≡ true) (sym (split_join c cs n)) r))

pub relative_form : (path : List ℕ) (left : List (List ℕ)) → Each HasNoSlash left → are_reduced left ≡ true
    → path ≡ relative_path left → (path ≡ codes ".") ⊎ (are_reduced (slice_split is_slash path) ≡ true)
relative_form path [] n r e = inl e
relative_form path (c ∷ cs) n r e = inr (subst (λ t. are_reduced (slice_split is_slash t) ≡ true) (sym e) (subst (λ l. are_reduced l ≡ true) (sym (split_join c cs n)) r))

cons_rest : {b : ℕ} {xs ys : List ℕ} → b ∷ xs ≡ b ∷ ys → xs ≡ ys
cons_rest e = cc

form_rooted : (path : List ℕ) → is_rooted path ≡ true → path ≡ simple_path path → has_simple_form path ≡ true
unfolding simple_path has_simple_form
form_rooted path e is =
    let whole : path ≡ 47 ∷ join_with_byte 47 (simple_components path) = is ∙ (rw e refl) in
    let rest : drop 1 path ≡ join_with_byte 47 (simple_components path) = cons_rest (sym (rooted_is path e) ∙ whole) in
    ⊎_elim
    (λ none. or_first (bytes_eq path (codes ".") || bytes_eq path (codes "/")) _
    (or_last (bytes_eq path (codes ".")) (bytes_eq path (codes "/")) ((bytes_eq-Decides path (codes "/")).1 (rooted_is path e ∙ ap (λ l. 47 ∷ l) none))))
    (λ form. or_last (bytes_eq path (codes ".") || bytes_eq path (codes "/")) _ (rw e form))
    (joined_form (drop 1 path) (simple_components path) (left_no_slash path) (left_reduced path) rest)

form_relative : (path : List ℕ) → is_rooted path ≡ false → path ≡ simple_path path → has_simple_form path ≡ true
unfolding simple_path has_simple_form
form_relative path e is =
    let whole : path ≡ relative_path (simple_components path) = is ∙ (rw e refl) in
    ⊎_elim
    (λ none. or_first (bytes_eq path (codes ".") || bytes_eq path (codes "/")) _
    (or_first (bytes_eq path (codes ".")) (bytes_eq path (codes "/")) ((bytes_eq-Decides path (codes ".")).1 none)))
    (λ form. or_last (bytes_eq path (codes ".") || bytes_eq path (codes "/")) _ (rw e form))
    (relative_form path (simple_components path) (left_no_slash path) (left_reduced path) whole)

form_from_simple : (path : List ℕ) → is_simple path ≡ true → has_simple_form path ≡ true
form_from_simple path h =
    let is : path ≡ simple_path path = (bytes_eq-Decides path (simple_path path)).0 h in
    elim (is_rooted path) as (λ b. is_rooted path ≡ b → has_simple_form path ≡ true) [
      | true ↦ λ e. form_rooted path e is
      | false ↦ λ e. form_relative path e is
    ] refl

pub simple_form : (path : List ℕ) → has_simple_form path ≡ is_simple path
simple_form path = same_tests (has_simple_form path) (is_simple path) (simple_from_form path) (form_from_simple path)

-- the simple path of a path is simple
not_slash : (b : ℕ) → is_slash b ≡ false → (47 == b) ≡ false
not_slash b e =
    elim (47 == b) as (λ t. (47 == b) ≡ t → t ≡ false) [
      | true ↦ λ h. absurd (let same = (Decides-eqb 47 b).0 h in let k = subst (λ n. is_slash n ≡ false) (sym same) e in cc)
      | false ↦ λ h. refl
    ] refl

relative_start : (c : List ℕ) (cs : List (List ℕ)) → IsStep c → HasNoSlash c → is_rooted (join_with_byte 47 (c ∷ cs)) ≡ false
unfolding IsStep HasNoSlash
relative_start [] cs s n = absurd (cc)
relative_start (b ∷ bs) [] s n = rw (not_slash b n.0) refl
relative_start (b ∷ bs) (d ∷ ds) s n = rw (not_slash b n.0) refl

rooted_twice : (cs : List (List ℕ)) → Each HasNoSlash cs → are_reduced cs ≡ true → simple_path (47 ∷ join_with_byte 47 cs) ≡ 47 ∷ join_with_byte 47 cs
rooted_twice [] n r = root_same
rooted_twice (c ∷ cs) n r = rooted_same (join_with_byte 47 (c ∷ cs)) (subst (λ l. are_reduced l ≡ true) (sym (split_join c cs n)) r)

relative_twice : (cs : List (List ℕ)) → Each HasNoSlash cs → Each IsStep cs → are_reduced cs ≡ true → simple_path (relative_path cs) ≡ relative_path cs
unfolding Each
relative_twice [] n s r = dot_same
relative_twice (c ∷ cs) n s r =
    relative_same (join_with_byte 47 (c ∷ cs)) (relative_start c cs s.0 n.0) (subst (λ l. are_reduced l ≡ true) (sym (split_join c cs n)) r)

rooted_path : (p : List ℕ) → is_rooted p ≡ true → simple_path p ≡ 47 ∷ join_with_byte 47 (simple_components p)
unfolding simple_path
rooted_path p e = rw e refl

relative_path_is : (p : List ℕ) → is_rooted p ≡ false → simple_path p ≡ relative_path (simple_components p)
unfolding simple_path
relative_path_is p e = rw e refl

simple_path_twice : (path : List ℕ) → simple_path (simple_path path) ≡ simple_path path
simple_path_twice path =
    let n = left_no_slash path in
    let r = left_reduced path in
    let s = reduced_each IsStep (filter is_step (slice_split is_slash path)) (filter_steps (slice_split is_slash path)) in
    elim (is_rooted path) as (λ b. is_rooted path ≡ b → simple_path (simple_path path) ≡ simple_path path) [
      | true ↦ λ e. subst (λ t. simple_path t ≡ t) (sym (rooted_path path e)) (rooted_twice (simple_components path) n r)
      | false ↦ λ e. subst (λ t. simple_path t ≡ t) (sym (relative_path_is path e)) (relative_twice (simple_components path) n s r)
    ] refl

pub simple_is_simple : (path : List ℕ) → is_simple (simple_path path) ≡ true
simple_is_simple path = (bytes_eq-Decides (simple_path path) (simple_path (simple_path path))).1 (sym (simple_path_twice path))
