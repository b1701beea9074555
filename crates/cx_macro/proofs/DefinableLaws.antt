-- What can be defined as a macro.
use Rattle.std.proofs.Common.{◌≡◌, ℕ, suc, ◌+◌, ◌<◌, Bool, true, false, not, cond, ◌&&◌, ◌||◌, List, [], ◌∷◌, ◌++◌, map, take, drop, length, position, Option, Some, None, Bor, is_some, bytes_eq, if◌then◌else◌, nat_lt, get_or, refl, sym, ◌∙◌, ap, subst, ⊎_elim, arith}
use Rattle.std.proofs.lemmas.Bool.{both_ways, cases_Bool, or_cases}
use Rattle.std.proofs.lemmas.Bool.Decides.{nat_tests}
use Rattle.std.proofs.lemmas.Cmp.{nat_list_eq_equiv}
use Rattle.std.proofs.lemmas.List.{map-append, take_more, take-append-drop}
use Rattle.std.proofs.lemmas.Map.Keys.{IsDistinct-push}
use Rattle.std.proofs.Math.Seq.{drop-cons}
use Rattle.std.specs.List.{AllByRecursion, IsDistinct, list_any, position_or_len}
use Rattle.cx_table.specs.NameTable.{Entries, index_of, names_of, with_entry}
use Rattle.cx_table.proofs.TableLaws.{with_entry-new}
use Rattle.cx_tokens.specs.declared.token.Token.{Token}
use Rattle.cx_tokens.specs.Simplified.{is_name}
use Rattle.cx_macro.specs.Macros.{Definition, begins_with_parameter, hashes_stand, index_among, index_of as index_of_macro, parameter_at, variable_name}

-- ---- names

-- the names of a table are these, and these are distinct
pub record AreNames {V : Type 0} (entries : Entries V) (names : List (List ℕ)) : Type 0 where
  pub view : names_of entries ≡ names
  pub distinct : IsDistinct bytes_eq names

pub no_names : {V : Type 0} (entries : Entries V) → entries ≡ [] → AreNames entries []
unfolding IsDistinct
no_names {V} entries e = record { view = ap (λ (es : Entries V). names_of es) e; distinct = tt }

some_where : (b : Bool) (n : ℕ) → is_some (cond b (Some n) None) ≡ b
some_where true n = refl
some_where false n = refl

lt_any : (p : List ℕ → Bool) (xs : List (List ℕ)) → nat_lt (position_or_len p xs) (length xs) ≡ list_any p xs
lt_any p [] = refl
lt_any p (x ∷ xs) =
    ⊎_elim
    (λ (e : p x ≡ true). rw e (one_at_least (length xs)))
    (λ (e : p x ≡ false). rw e (one_more (position_or_len p xs) (length xs) ∙ lt_any p xs))
    (cases_Bool (p x))
  where
    one_at_least : (a : ℕ) → nat_lt 0 (suc a) ≡ true
    one_at_least a = grind (arith, nat_tests)

    one_more : (a b : ℕ) → nat_lt (1 + a) (suc b) ≡ nat_lt a b
    one_more a b = grind (arith, nat_tests)

found_any : (p : List ℕ → Bool) (xs : List (List ℕ)) → is_some (position p xs) ≡ list_any p xs
found_any p xs = some_where (nat_lt (position_or_len p xs) (length xs)) (position_or_len p xs) ∙ lt_any p xs

among : {V : Type 0} (entries : Entries V) (name : List ℕ) (names : List (List ℕ)) (found : Bool) → AreNames entries names → found ≡ is_some (index_of entries name)
    → found ≡ list_any (bytes_eq name) names
unfolding index_of
among entries name names found a e = e ∙ (found_any (bytes_eq name) (names_of entries) ∙ ap (list_any (bytes_eq name)) a.view)

none_of : (o : Option ℕ) → is_some o ≡ false → o ≡ None
none_of None h = refl
none_of (Some n) h = absurd cc

-- a name more, that is none of the names
pub one_name : {V : Type 0} (entries new : Entries V) (v : V) (name copy : List ℕ) (names : List (List ℕ)) (i : ℕ) (other : List ℕ) (found : Bool)
    → AreNames entries (take i names) → i < length names → name ≡ get_or names i other → copy ≡ name → found ≡ is_some (index_of entries name) → found ≡ false
    → new ≡ with_entry copy v entries → AreNames new (take (i + 1) names)
one_name {V} entries new v name copy names i other found a below at same is none e =
    let more : take (i + 1) names ≡ take i names ++ name ∷ [] =
    take_more names i other below ∙ ap (λ x. take i names ++ x ∷ []) (sym at) in
    let apart : list_any (bytes_eq name) (take i names) ≡ false = sym (among entries name (take i names) found a is) ∙ none in
    let absent : index_of entries name ≡ None = none_of (index_of entries name) (sym is ∙ none) in
    let grown : new ≡ entries ++ (name, v) ∷ [] = e ∙ (ap (λ x. with_entry x v entries) same ∙ with_entry-new name v entries absent) in
    record {
      view = ap (λ (es : Entries V). names_of es) grown
          ∙ (map-append (λ (x : List ℕ × V). x.0) entries ((name, v) ∷ []) ∙ (ap (λ x. x ++ name ∷ []) a.view ∙ sym more));
      distinct = subst (IsDistinct bytes_eq) (sym more) (IsDistinct-push nat_list_eq_equiv (take i names) name a.distinct apart);
    }

-- a name that is one of those before it
unlike : (name : List ℕ) (front rest : List (List ℕ)) → list_any (bytes_eq name) front ≡ true → IsDistinct bytes_eq (front ++ name ∷ rest) → ⊥
unfolding IsDistinct
unlike name [] rest h d = absurd cc
unlike name (x ∷ xs) rest h d =
    ⊎_elim
    (λ (e : bytes_eq name x ≡ true). both_ways (bytes_eq x name) (apart x xs d.0) (nat_list_eq_equiv.symm x name ∙ e))
    (λ (e : list_any (bytes_eq name) xs ≡ true). unlike name xs rest e d.1)
    (or_cases _ _ h)
  where
    apart : (x : List ℕ) (xs : List (List ℕ)) → AllByRecursion (λ y. bytes_eq x y ≡ false) (xs ++ name ∷ rest) → bytes_eq x name ≡ false
    apart x [] h = h.0
    apart x (y ∷ ys) h = apart x ys h.1

pub same_names : {V : Type 0} (entries : Entries V) (name : List ℕ) (names : List (List ℕ)) (i : ℕ) (other : List ℕ) (found : Bool) → AreNames entries (take i names)
    → i < length names → name ≡ get_or names i other → found ≡ is_some (index_of entries name) → found ≡ true → IsDistinct bytes_eq names → ⊥
same_names entries name names i other found a below at is some d =
    let within : list_any (bytes_eq name) (take i names) ≡ true = sym (among entries name (take i names) found a is) ∙ some in
    let whole : names ≡ take i names ++ name ∷ drop (suc i) names =
    sym (take-append-drop i names) ∙ ap (λ x. take i names ++ x) (drop-cons names i other below ∙ ap (λ x. x ∷ drop (suc i) names) (sym at)) in
    unlike name (take i names) (drop (suc i) names) within (subst (IsDistinct bytes_eq) whole d)

-- ---- parameters

index_is : (variadic : Bool) (parameters : List (List ℕ)) (name : List ℕ) (found : Option ℕ)
    → is_some (index_among variadic parameters name found) ≡ (is_some found || (variadic && bytes_eq name variable_name))
index_is variadic parameters name (Some i) = refl
index_is variadic parameters name None = some_where (variadic && bytes_eq name variable_name) (length parameters)

-- whether a token is a parameter, by the set of these
pub parameter_is : {V : Type 0} (d : Definition) (t : Token) (entries : Entries V) → d.parameters ≡ Some (names_of entries)
    → is_some (parameter_at d t) ≡ (is_name t.kind && (is_some (index_of entries t.text) || (d.variadic && bytes_eq t.text variable_name)))
unfolding parameter_at index_of
parameter_is d t entries e =
    ⊎_elim
    (λ (k : is_name t.kind ≡ true).
    rw k (ap (λ p. is_some (index_of_macro d.variadic p t.text)) e ∙ index_is d.variadic (names_of entries) t.text (position (bytes_eq t.text) (names_of entries))))
    (λ (k : is_name t.kind ≡ false). rw k refl)
    (cases_Bool (is_name t.kind))

-- ---- tokens

-- what stands after a `#`, or after another token
abbrev pub stand_after : Definition → Bool → List Token → Bool
stand_after d is_after_hash ts = cond is_after_hash (begins_with_parameter d ts) true && hashes_stand d ts
