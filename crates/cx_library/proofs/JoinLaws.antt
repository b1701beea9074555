-- Lists of names that are joined.
use Rattle.std.proofs.Common.{◌≡◌, ℕ, ◌+◌, ◌<◌, length, IfSome, Bool, true, false, cond, List, [], ◌∷◌, ◌++◌, filter, take, Option, Some, None, option_map, bytes_eq, refl, sym, ◌∙◌}
use Rattle.std.specs.Prelude.{is_none}
use Rattle.std.specs.List.{slice_get, IsDistinct}
use Rattle.std.specs.Option.{option_map_or, option_or}
use Rattle.std.proofs.lemmas.List.{append-nil, append_assoc}
use Rattle.std.proofs.lemmas.List.Elements.{filter-append}
use Rattle.std.proofs.lemmas.Slice.Eq.{bytes_eq-Decides}
use Rattle.cx_table.proofs.EntryLaws.{bytes_eq-sym}
use Rattle.cx_table.specs.NameTable.{Entries, HasDistinctNames, value_of, with_entry}
use Rattle.cx_library.specs.Joined.{joined, latest, with_later}
use Rattle.cx_library.proofs.ListLaws.{some_at, take-at}
use Rattle.cx_library.proofs.NameLaws.{value_of-none, value_of-cons, value_of-append, absent, with_entry-absent, with_entry-append, new_at, by_name, value_of-by_name, value_of-filter}

module _ {V : Type 0} (over : V → V → V) where
  -- what is known of a name, by what either list has
  abbrev pub both : Option V → Option V → Option V
  both None later = later
  both (Some v) later = Some (with_later over v later)

  -- the earlier names, with what the later list has of them
  abbrev pub first_names : Entries V → Entries V → Entries V
  first_names earlier later = by_name (λ name v. with_later over v (value_of later name)) earlier

  -- the names that are new in the later list
  abbrev pub new_names : Entries V → Entries V → Entries V
  new_names earlier later = filter (λ e. is_none (value_of earlier e.0)) later

  pub value_of-joined : (earlier later : Entries V) (name : List ℕ) → value_of (joined over earlier later) name ≡ both (value_of earlier name) (value_of later name)
  unfolding joined
  value_of-joined earlier later name =
      value_of-append (first_names earlier later) (new_names earlier later) name
      ∙ rw (value_of-by_name (λ name v. with_later over v (value_of later name)) earlier name, value_of-filter (λ n. is_none (value_of earlier n)) later name)
      (by (value_of earlier name))
    where
      by : (o : Option V) → option_or (option_map (λ v. with_later over v (value_of later name)) o) (cond (is_none o) (value_of later name) None) ≡ both o (value_of later name)
      by None = refl
      by (Some v) = refl

  -- ---- a later name more

  -- the value that another name has then
  other_value : (later : Entries V) (name other : List ℕ) (v : V) → bytes_eq name other ≡ false → value_of (later ++ (name, v) ∷ []) other ≡ value_of later other
  other_value later name other v d =
      value_of-append later ((name, v) ∷ []) other ∙ rw (value_of-cons (name, v) [] other, d, value_of-none {V = V} other) (by (value_of later other))
    where
      by : (o : Option V) → option_or o None ≡ o
      by None = refl
      by (Some x) = refl

  new_value : (later : Entries V) (name : List ℕ) (v : V) → value_of later name ≡ None → value_of (later ++ (name, v) ∷ []) name ≡ Some v
  new_value later name v n =
      value_of-append later ((name, v) ∷ []) name ∙ rw (n, value_of-cons (name, v) [] name, (bytes_eq-Decides name name).1 refl) refl

  -- names that are others stay as they are
  others_stay : (earlier later : Entries V) (name : List ℕ) (v : V) → value_of earlier name ≡ None
      → first_names earlier (later ++ (name, v) ∷ []) ≡ first_names earlier later
  others_stay [] later name v n = refl
  others_stay (e ∷ es) later name v n = by (bytes_eq e.0 name) refl (sym (value_of-cons e es name) ∙ n) (others_stay es later name v)
    where
      by : (b : Bool) → bytes_eq e.0 name ≡ b → cond b (Some e.1) (value_of es name) ≡ None
          → (value_of es name ≡ None → first_names es (later ++ (name, v) ∷ []) ≡ first_names es later)
          → first_names (e ∷ es) (later ++ (name, v) ∷ []) ≡ first_names (e ∷ es) later
      by true t m rest = absurd (cc)
      by false t m rest = rw (other_value later name e.0 v (bytes_eq-sym name e.0 ∙ t), rest m) refl

  -- a name that is there gets the later value over its own
  one_changes : (earlier later : Entries V) (name : List ℕ) (v w : V) → HasDistinctNames earlier → value_of later name ≡ None → value_of earlier name ≡ Some w
      → first_names earlier (later ++ (name, v) ∷ []) ≡ with_entry name (over w v) (first_names earlier later)
  unfolding IsDistinct with_entry
  one_changes [] later name v w d n s = absurd (cc (value_of-none {V = V} name))
  one_changes (e ∷ es) later name v w d n s =
      by (bytes_eq e.0 name) refl (sym (value_of-cons e es name) ∙ s) (one_changes es later name v w d.1 n)
    where
      by : (b : Bool) → bytes_eq e.0 name ≡ b → cond b (Some e.1) (value_of es name) ≡ Some w
          → (value_of es name ≡ Some w → first_names es (later ++ (name, v) ∷ []) ≡ with_entry name (over w v) (first_names es later))
          → (e.0, with_later over e.1 (value_of (later ++ (name, v) ∷ []) e.0)) ∷ first_names es (later ++ (name, v) ∷ [])
          ≡ cond (bytes_eq e.0 name) ((name, over w v) ∷ first_names es later) ((e.0, with_later over e.1 (value_of later e.0)) ∷ with_entry name (over w v) (first_names es later))
      by true t m rest =
          let same : e.0 ≡ name = (bytes_eq-Decides e.0 name).0 t in
          let value : e.1 ≡ w = cc in
          rw (t, others_stay es later name v (absent name es (rw (← same) d.0)), same, new_value later name v n, value) refl
      by false t m rest = rw (t, other_value later name e.0 v (bytes_eq-sym name e.0 ∙ t), rest m) refl

  pub joined-push : (earlier later : Entries V) (name : List ℕ) (v : V) → HasDistinctNames earlier → value_of later name ≡ None
      → joined over earlier (later ++ (name, v) ∷ [])
      ≡ with_entry name (option_map_or (λ e. over e v) (value_of (joined over earlier later) name) v) (joined over earlier later)
  unfolding joined
  joined-push earlier later name v d n =
      rw (value_of-joined earlier later name, n) (by (value_of earlier name) refl)
    where
      by : (o : Option V) → value_of earlier name ≡ o
          → joined over earlier (later ++ (name, v) ∷ []) ≡ with_entry name (option_map_or (λ e. over e v) (both o None) v) (joined over earlier later)
      by None s =
          rw (others_stay earlier later name v s, filter-append (λ (e : List ℕ × V). is_none (value_of earlier e.0)) later ((name, v) ∷ []), s)
          (sym (append_assoc (first_names earlier later) (new_names earlier later) ((name, v) ∷ []))
          ∙ sym (with_entry-absent name v (joined over earlier later) (value_of-joined earlier later name ∙ (cc))))
      by (Some w) s =
          rw (one_changes earlier later name v w d n s, filter-append (λ (e : List ℕ × V). is_none (value_of earlier e.0)) later ((name, v) ∷ []), s, append-nil (new_names earlier later))
          (sym (with_entry-append name (over w v) w (first_names earlier later) (new_names earlier later)
          (value_of-by_name (λ name v. with_later over v (value_of later name)) earlier name ∙ rw (s, n) refl)))

  pub joined_more : (earlier later : Entries V) (i : ℕ) (name : List ℕ) (v : V) → HasDistinctNames earlier → HasDistinctNames later → slice_get later i ≡ Some (name, v)
      → joined over earlier (take (i + 1) later)
      ≡ with_entry name (option_map_or (λ e. over e v) (value_of (joined over earlier (take i later)) name) v) (joined over earlier (take i later))
  joined_more earlier later i name v d e s = rw (take-at later i (name, v) s) (joined-push earlier (take i later) name v d (new_at later i (name, v) e s))

  pub joined-none : (earlier : Entries V) → joined over earlier [] ≡ earlier
  unfolding joined
  joined-none earlier = append-nil (first_names earlier []) ∙ same earlier
    where
      same : (es : Entries V) → first_names es [] ≡ es
      same [] = refl
      same (e ∷ es) = rw (value_of-none {V = V} e.0, same es) refl

  -- the table after the name at an index
  pub step : (earlier later table new : Entries V) (i : ℕ) → HasDistinctNames earlier → HasDistinctNames later → i < length later
      → table ≡ joined over earlier (take i later)
      → IfSome (slice_get later i) (λ e. new ≡ with_entry e.0 (option_map_or (λ v. over v e.1) (value_of table e.0) e.1) table)
      → new ≡ joined over earlier (take (i + 1) later)
  step earlier later table new i d e h t s = by (slice_get later i) refl s
    where
      by : (o : Option (List ℕ × V)) → slice_get later i ≡ o
          → IfSome o (λ e. new ≡ with_entry e.0 (option_map_or (λ v. over v e.1) (value_of table e.0) e.1) table)
          → new ≡ joined over earlier (take (i + 1) later)
      by None n s = absurd (some_at later i h n)
      by (Some x) n s = s ∙ rw t (sym (joined_more earlier later i x.0 x.1 d e n))

module _ {V : Type 0} where
  -- the same, where each name gets its later value
  pub latest_step : (earlier later table new : Entries V) (i : ℕ) → HasDistinctNames earlier → HasDistinctNames later → i < length later
      → table ≡ joined latest earlier (take i later)
      → IfSome (slice_get later i) (λ e. new ≡ with_entry e.0 e.1 table)
      → new ≡ joined latest earlier (take (i + 1) later)
  latest_step earlier later table new i d e h t s = step latest earlier later table new i d e h t (by (slice_get later i) s)
    where
      one : (o : Option V) (v : V) → option_map_or (λ (x : V). v) o v ≡ v
      one None v = refl
      one (Some x) v = refl

      by : (o : Option (List ℕ × V)) → IfSome o (λ e. new ≡ with_entry e.0 e.1 table)
          → IfSome o (λ e. new ≡ with_entry e.0 (option_map_or (λ v. latest v e.1) (value_of table e.0) e.1) table)
      by None s = tt
      by (Some x) s = rw (one (value_of table x.0) x.1) s
