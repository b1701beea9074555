-- The list of members has each member of the folder, once and in order.
use Rattle.std.proofs.Common.{◌≡◌, ℕ, List, [], ◌∷◌, Option, Some, None, Bool, true, false, refl, sym, ap, ◌∙◌, ◌⊎◌, ⊎_elim, inl, inr, ◌↔◌, arith, suc, zero, subst}
use Rattle.std.specs.List.{Contains}
use Rattle.std.specs.Ordering.{ordering_then, ordering_reverse, nat_cmp, bool_cmp}
use Rattle.std.specs.Cmp.Lexicographic.{slice_cmp, nat_list_cmp_total}
use Rattle.std.specs.Cmp.{bool_cmp_total}
use Rattle.std.specs.FinMap.{slice_cmp-IsAntisymmetric, nat_cmp-IsAntisymmetric}
use Rattle.std.specs.declared.cmp.Ordering.{Ordering}
use Rattle.std.specs.declared.cmp.Ordering.TheVariants.{Less, Equal, Greater}
use Rattle.cx_base.specs.declared.answers.Entry.{Entry}
use Rattle.cx_base.specs.declared.answers.Stored.{Stored}
use Rattle.cx_base.specs.Folders.{entry_at, entry_cmp, IsOrdered, LeadsTo, AreMembers}
use Rattle.cx_base.specs.Shapes.Members.{added, placed, with_entry, members_with}

-- the entry stands in the list, by recursion
abbrev Has : List Entry → Entry → Type 0
Has [] entry = ⊥
Has (first ∷ rest) entry = (entry ≡ first) ⊎ Has rest entry

has_from : (entries : List Entry) (entry : Entry) → Contains entries entry → Has entries entry
has_from [] entry h = absurd (omega (arith, h.1))
has_from (first ∷ rest) entry (zero, below, is) = inl (sym is)
has_from (first ∷ rest) entry (suc k, below, is) = inr (has_from rest entry (k, omega (arith, below), is))

has_to : (entries : List Entry) (entry : Entry) → Has entries entry → Contains entries entry
has_to [] entry h = absurd h
has_to (first ∷ rest) entry h =
    ⊎_elim (λ e. (0, omega arith, sym e))
    (λ r. let at = has_to rest entry r in (suc at.0, omega (arith, at.1), at.2)) h

-- some file's path leads to this member of a folder, by recursion
abbrev Leads : List Stored → List ℕ → Entry → Type 0
Leads [] folder entry = ⊥
Leads (file ∷ files) folder entry = (entry_at folder file.path ≡ Some entry) ⊎ Leads files folder entry

leads_from : (files : List Stored) (folder : List ℕ) (entry : Entry) → LeadsTo files folder entry → Leads files folder entry
leads_from [] folder entry h = absurd (omega (arith, h.2))
leads_from (file ∷ files) folder entry (zero, found, below, is, leads) =
    inl (subst (λ s. entry_at folder s.path ≡ Some entry) (sym is) leads)
leads_from (file ∷ files) folder entry (suc k, found, below, is, leads) =
    inr (leads_from files folder entry (k, found, omega (arith, below), is, leads))

leads_to : (files : List Stored) (folder : List ℕ) (entry : Entry) → Leads files folder entry → LeadsTo files folder entry
leads_to [] folder entry h = absurd h
leads_to (file ∷ files) folder entry h =
    ⊎_elim (λ e. (0, file, omega arith, refl, e))
    (λ r. let at = leads_to files folder entry r in (suc at.0, at.1, omega (arith, at.2), at.3, at.4)) h

-- the cases of an addition to a list that is not empty
added_ways : (P : List Entry → Type 0) (entry other : Entry) (others : List Entry)
    → (entry_cmp entry other ≡ Less → P (entry ∷ other ∷ others))
    → (entry_cmp entry other ≡ Equal → P (other ∷ others))
    → (entry_cmp entry other ≡ Greater → P (other ∷ added entry others))
    → P (added entry (other ∷ others))
unfolding added
added_ways P entry other others less equal greater =
    elim (entry_cmp entry other) as (λ o. entry_cmp entry other ≡ o → P (placed o entry other others (added entry others))) [
      | Less ↦ less
      | Equal ↦ equal
      | Greater ↦ greater
    ] refl

then_reverse : (one other : Ordering) → ordering_reverse (ordering_then one other) ≡ ordering_then (ordering_reverse one) (ordering_reverse other)
then_reverse Less other = refl
then_reverse Equal other = refl
then_reverse Greater other = refl

reversed : (one other : Entry) → entry_cmp one other ≡ ordering_reverse (entry_cmp other one)
reversed one other =
    let names = nat_list_cmp_total.antisymm one.name other.name in
    let folders = bool_cmp_total.antisymm one.folder other.folder in
    rw (names, folders) (sym (then_reverse (slice_cmp nat_cmp other.name one.name) (bool_cmp other.folder one.folder)))

greater_is_less : (one other : Entry) → entry_cmp one other ≡ Greater → entry_cmp other one ≡ Less
greater_is_less one other h = reversed other one ∙ ap ordering_reverse h

flags_same : (one other : Bool) → bool_cmp one other ≡ Equal → one ≡ other
flags_same true true h = refl
flags_same false false h = refl
flags_same true false h = cc
flags_same false true h = cc

then_equal : (one other : Ordering) → ordering_then one other ≡ Equal → (one ≡ Equal) × (other ≡ Equal)
then_equal Less other h = absurd (cc)
then_equal Equal other h = (refl, h)
then_equal Greater other h = absurd (cc)

equal_is_same : (one other : Entry) → entry_cmp one other ≡ Equal → one ≡ other
equal_is_same one other h =
    let both = then_equal (slice_cmp nat_cmp one.name other.name) (bool_cmp one.folder other.folder) h in
    let names = slice_cmp-IsAntisymmetric nat_cmp-IsAntisymmetric one.name other.name both.0 in
    let flags = flags_same one.folder other.folder both.1 in
    λ i. record { name = names i; folder = flags i }

pub has_added : (entry : Entry) (entries : List Entry) (some : Entry) → Has (added entry entries) some ↔ ((some ≡ entry) ⊎ Has entries some)
unfolding added
has_added entry [] some = (λ h. h, λ h. h)
has_added entry (other ∷ others) some =
    added_ways (λ l. Has l some ↔ ((some ≡ entry) ⊎ Has (other ∷ others) some)) entry other others
    (λ e. (λ h. h, λ h. h))
    (λ e. (λ h. inr h, λ h. ⊎_elim (λ s. inl (s ∙ equal_is_same entry other e)) (λ s. s) h))
    (λ e. let later = has_added entry others some in (
      λ h. ⊎_elim (λ s. inr (inl s)) (λ s. ⊎_elim (λ t. inl t) (λ t. inr (inr t)) (later.0 s)) h,
      λ h. ⊎_elim (λ s. inr (later.1 (inl s))) (λ s. ⊎_elim (λ t. inl t) (λ t. inr (later.1 (inr t))) s) h,
    ))

-- an entry that stands before the first of an ordered list
IsBefore : Entry → List Entry → Type 0
IsBefore entry [] = Unit {0}
IsBefore entry (first ∷ rest) = entry_cmp entry first ≡ Less

front_ordered : (entry : Entry) (entries : List Entry) → IsBefore entry entries → IsOrdered entries → IsOrdered (entry ∷ entries)
unfolding IsBefore
front_ordered entry [] b o = tt
front_ordered entry (first ∷ rest) b o = (b, o)

rest_ordered : (entry : Entry) (entries : List Entry) → IsOrdered (entry ∷ entries) → IsOrdered entries
rest_ordered entry [] o = tt
rest_ordered entry (first ∷ rest) o = o.1

rest_before : (entry : Entry) (entries : List Entry) → IsOrdered (entry ∷ entries) → IsBefore entry entries
unfolding IsBefore
rest_before entry [] o = tt
rest_before entry (first ∷ rest) o = o.0

before_added : (one entry : Entry) (entries : List Entry) → entry_cmp one entry ≡ Less → IsBefore one entries → IsBefore one (added entry entries)
unfolding IsBefore added
before_added one entry [] e b = e
before_added one entry (other ∷ others) e b =
    added_ways (λ l. IsBefore one l) entry other others (λ _. e) (λ _. b) (λ _. b)

pub ordered_added : (entry : Entry) (entries : List Entry) → IsOrdered entries → IsOrdered (added entry entries)
unfolding added
ordered_added entry [] o = tt
ordered_added entry (other ∷ others) o =
    added_ways IsOrdered entry other others
    (λ e. (e, o))
    (λ e. o)
    (λ e. front_ordered other (added entry others)
    (before_added other entry others (greater_is_less entry other e) (rest_before other others o))
    (ordered_added entry others (rest_ordered other others o)))

has_with : (found : Option Entry) (entries : List Entry) (some : Entry) → Has (with_entry found entries) some ↔ ((found ≡ Some some) ⊎ Has entries some)
has_with None entries some = (λ h. inr h, λ h. ⊎_elim (λ s. absurd (cc)) (λ s. s) h)
has_with (Some entry) entries some =
    let h = has_added entry entries some in (
      λ g. ⊎_elim (λ s. inl (ap Some (sym s))) (λ s. inr s) (h.0 g),
      λ g. ⊎_elim (λ s. h.1 (inl (cc))) (λ s. h.1 (inr s)) g,
    )

ordered_with : (found : Option Entry) (entries : List Entry) → IsOrdered entries → IsOrdered (with_entry found entries)
ordered_with None entries o = o
ordered_with (Some entry) entries o = ordered_added entry entries o

has_members : (entries : List Entry) (files : List Stored) (folder : List ℕ) (some : Entry)
    → Has (members_with entries files folder) some ↔ (Leads files folder some ⊎ Has entries some)
has_members entries [] folder some = (λ h. inr h, λ h. ⊎_elim (λ s. absurd s) (λ s. s) h)
has_members entries (file ∷ files) folder some =
    let found = entry_at folder file.path in
    let h = has_members (with_entry found entries) files folder some in
    let w = has_with found entries some in (
      λ g. ⊎_elim (λ s. inl (inr s)) (λ s. ⊎_elim (λ t. inl (inl t)) (λ t. inr t) (w.0 s)) (h.0 g),
      λ g. ⊎_elim (λ s. ⊎_elim (λ t. h.1 (inr (w.1 (inl t)))) (λ t. h.1 (inl t)) s) (λ s. h.1 (inr (w.1 (inr s)))) g,
    )

-- the list made from nothing has the members of the folder
pub are_members : (files : List Stored) (folder : List ℕ) → AreMembers files folder (members_with [] files folder)
are_members files folder some =
    let h = has_members [] files folder some in (
      λ g. leads_to files folder some (⊎_elim (λ s. s) (λ s. absurd s) (h.0 (has_from (members_with [] files folder) some g))),
      λ g. has_to (members_with [] files folder) some (h.1 (inl (leads_from files folder some g))),
    )

ordered_from : (entries : List Entry) (files : List Stored) (folder : List ℕ) → IsOrdered entries → IsOrdered (members_with entries files folder)
ordered_from entries [] folder o = o
ordered_from entries (file ∷ files) folder o = ordered_from (with_entry (entry_at folder file.path) entries) files folder (ordered_with (entry_at folder file.path) entries o)

-- and is in order
pub members_ordered : (files : List Stored) (folder : List ℕ) → IsOrdered (members_with [] files folder)
members_ordered files folder = ordered_from [] files folder tt
