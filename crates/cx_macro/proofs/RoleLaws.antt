-- What stands in a replacement list, and what the code keeps of it.
use Rattle.std.proofs.Common.{◌≡◌, ℕ, zero, suc, ap₂, ◌+◌, ◌<◌, List, [], ◌∷◌, ◌++◌, Bool, true, false, not, ◌&&◌, ◌||◌, Option, Some, None, if◌then◌else◌, refl, sym, ◌∙◌, ap, subst, arith, ◌==◌, ⊎_elim, length, map, reverse, set, take, drop, flat_map, get_or}
use Rattle.std.proofs.lemmas.Bool.{cases_Bool}
use Rattle.std.proofs.lemmas.Bool.Decides.{nat_tests}
use Rattle.std.proofs.lemmas.List.{append-nil, append_assoc, get_or-set_other, get_or-set_same, reverse-append}
use Rattle.std.specs.List.{list_any}
use Rattle.cx_tokens.specs.declared.token.Token.{Token}
use Rattle.cx_macro.specs.declared.roles.Role as code_role
use Rattle.cx_macro.specs.declared.roles.Uses.{Uses}
use Rattle.cx_macro.specs.Arguments.{Arguments}
use Rattle.cx_macro.specs.Macros.{Definition, is_hash, is_paste, parameter_at}
use Rattle.cx_macro.specs.Replacement.{HasNoGnuComma, Substitute, standard_substitutes_of, substitutes_by, substitutes_of, Position, positions_after, positions_of, Role, begins_with, ends_gnu_comma, expanded, follows_gnu_comma, given, gnu_comma, gnu_paste, gnu_variable, hash, hash_operand, is_expanded, is_gnu_comma, is_parameter, paste, role_by, role_of, role_of_parameter, standard_role, substituted, takes_expanded, variable_index}
use Rattle.cx_macro.specs.Shapes.Roles.{code_of, nearest_or, positions_from, role_at, takes_given}
use Rattle.cx_macro.specs.Shapes.Substitutes.{is_raw}
use Rattle.cx_macro.specs.Shapes.Uses.{AreUses, roles_of}

-- ---- the next position

next_cut : (i : ℕ) (tokens after : List Token) (t : Token) → drop i tokens ≡ t ∷ after
    → (take (suc i) tokens ≡ take i tokens ++ t ∷ []) × (drop (suc i) tokens ≡ after)
next_cut zero [] after t e = absurd cc
next_cut zero (x ∷ xs) after t e = let same : x ≡ t = cc in let rest : xs ≡ after = cc in (ap (λ y. y ∷ []) same, rest)
next_cut (suc i) [] after t e = absurd cc
next_cut (suc i) (x ∷ xs) after t e = let p = next_cut i xs after t e in (ap (λ y. x ∷ y) p.0, p.1)

pub next_position : (i : ℕ) (tokens before rest after : List Token) (t : Token) (now : List Position) → now ≡ positions_from i tokens
    → before ≡ take i tokens → rest ≡ drop i tokens → rest ≡ t ∷ after
    → now ≡ (record { before = reverse before; token = t; after = after }) ∷ positions_from (i + 1) tokens
next_position i tokens before rest after t now e f g h =
    let whole : drop i tokens ≡ t ∷ after = sym g ∙ h in
    let p = next_cut i tokens after t whole in
    let grown : reverse (take (suc i) tokens) ≡ t ∷ reverse (take i tokens) = ap reverse p.0 ∙ reverse-append (take i tokens) (t ∷ []) in
    let fronts : reverse (take i tokens) ≡ reverse before = ap reverse (sym f) in
    let next : i + 1 ≡ suc i = omega arith in
    let here : positions_from i tokens ≡ positions_after (reverse (take i tokens)) (t ∷ after) = ap (λ x. positions_after (reverse (take i tokens)) x) whole in
    let there : positions_from (i + 1) tokens ≡ positions_after (t ∷ reverse (take i tokens)) after =
    ap (λ n. positions_from n tokens) next ∙ ap₂ (λ x y. positions_after x y) grown p.1 in
    e ∙ (here ∙ ap₂ (λ (x : List Token) (y : List Position). (record { before = x; token = t; after = after }) ∷ y) fronts (sym there))

moved : (before after : List Token) (t : Token) → reverse before ++ (t ∷ after) ≡ reverse (t ∷ before) ++ after
moved before after t =
    sym (ap (λ x. x ++ after) (reverse-append (t ∷ []) before) ∙ append_assoc (reverse before) (t ∷ []) after)

-- ---- the code's roles

module _ (d : Definition) (p : Position) where
  -- a role is found again from the code's form and the position
  abbrev Back : Role → Type 0
  Back r = role_at p (code_of r) ≡ r

  choice : (b : Bool) (r s : Role) → Back r → Back s → Back (if b then r else s)
  choice true r s a b = a
  choice false r s a b = b

  substituted_back : (i : ℕ) → Back (substituted p i)
  substituted_back i = choice (begins_with is_paste p.before || begins_with is_paste p.after) (given i) (expanded i) refl refl

  parameter_back : (before : List Token) (i : ℕ) → p.before ≡ before → Back (role_of_parameter p before i)
  parameter_back [] i e = substituted_back i
  parameter_back (t ∷ before) i e =
      choice (is_hash t) (hash_operand t i) (substituted p i) (ap (λ b. hash_operand (nearest_or p.token b) i) e) (substituted_back i)

  by_back : (o : Option ℕ) → Back (role_by p o)
  by_back None = refl
  by_back (Some i) = parameter_back p.before i refl

  standard_back : Back (standard_role d p)
  standard_back =
      choice (is_paste p.token) paste (if is_hash p.token && begins_with (is_parameter d) p.after then hash else role_by p (parameter_at d p.token))
      refl
      (choice (is_hash p.token && begins_with (is_parameter d) p.after) hash (role_by p (parameter_at d p.token)) refl (by_back (parameter_at d p.token)))

  pub role_back : role_at p (code_of (role_of d p)) ≡ role_of d p
  unfolding role_of
  role_back =
      choice (is_gnu_comma d p.before (p.token ∷ p.after)) gnu_comma
      (if follows_gnu_comma d p.before (p.token ∷ p.after) then gnu_paste
      else if ends_gnu_comma d p.before (p.token ∷ p.after) then gnu_variable (variable_index d) else standard_role d p)
      refl
      (choice (follows_gnu_comma d p.before (p.token ∷ p.after)) gnu_paste
      (if ends_gnu_comma d p.before (p.token ∷ p.after) then gnu_variable (variable_index d) else standard_role d p)
      refl
      (choice (ends_gnu_comma d p.before (p.token ∷ p.after)) (gnu_variable (variable_index d)) (standard_role d p) refl standard_back))

-- ---- what the code keeps of a body

-- what is kept of the positions so far, where these are left
pub record AreUsesSoFar (d : Definition) (roles : List code_role.Role) (wide raw : List Bool) (rest : List Position) : Type 0 where
  pub all_roles : roles ++ map (λ p. code_of (role_of d p)) rest ≡ roles_of d
  pub all_expanded : (i : ℕ) → (list_any (λ p. takes_expanded i (role_of d p)) rest || get_or wide i false) ≡ is_expanded d i
  pub all_raw : (i : ℕ) → (list_any (λ p. takes_given i (role_of d p)) rest || get_or raw i false) ≡ is_raw d i

or_none : (b : Bool) → (b || false) ≡ b
or_none true = refl
or_none false = refl

or_swap : (a b c : Bool) → (b || (a || c)) ≡ ((a || b) || c)
or_swap true true c = refl
or_swap true false c = refl
or_swap false b c = refl

pub uses_begin : (d : Definition) (roles : List code_role.Role) (wide raw : List Bool) (positions : List Position) → roles ≡ [] → wide ≡ [] → raw ≡ []
    → positions ≡ positions_of d.body → AreUsesSoFar d roles wide raw positions
unfolding is_expanded is_raw
uses_begin d roles wide raw positions r e w h = record {
  all_roles = ap₂ (λ x y. x ++ map (λ p. code_of (role_of d p)) y) r h;
  all_expanded = λ i. ap₂ (λ x y. list_any (λ p. takes_expanded i (role_of d p)) y || get_or x i false) e h ∙ or_none _;
  all_raw = λ i. ap₂ (λ x y. list_any (λ p. takes_given i (role_of d p)) y || get_or x i false) w h ∙ or_none _;
}

-- one position more
flag_more : (test : Position → Bool) (old new noted all : Bool) (positions rest : List Position) (p : Position) → (list_any test positions || old) ≡ all
    → positions ≡ p ∷ rest → new ≡ (noted || old) → noted ≡ test p → (list_any test rest || new) ≡ all
flag_more test old new noted all positions rest p h e f n =
    ap (λ x. list_any test rest || x) (f ∙ ap (λ x. x || old) n) ∙ (or_swap (test p) (list_any test rest) old ∙ (ap (λ x. list_any test x || old) (sym e) ∙ h))

pub uses_more : (d : Definition) (roles roles' : List code_role.Role) (wide wide' raw raw' : List Bool) (positions rest : List Position) (p : Position) (r : code_role.Role)
    → AreUsesSoFar d roles wide raw positions → positions ≡ p ∷ rest → r ≡ code_of (role_of d p)
    → ((q : Position) (i : ℕ) → get_or wide' i false ≡ (takes_expanded i (role_at q r) || get_or wide i false))
    → ((q : Position) (i : ℕ) → get_or raw' i false ≡ (takes_given i (role_at q r) || get_or raw i false))
    → roles' ≡ roles ++ r ∷ [] → AreUsesSoFar d roles' wide' raw' rest
uses_more d roles roles' wide wide' raw raw' positions rest p r h e f x w m =
    let back : role_at p r ≡ role_of d p = ap (role_at p) f ∙ role_back d p in
    record {
      all_roles = ap (λ y. y ++ map (λ q. code_of (role_of d q)) rest) m
          ∙ (append_assoc roles (r ∷ []) (map (λ q. code_of (role_of d q)) rest)
          ∙ (ap (λ y. roles ++ y ∷ map (λ q. code_of (role_of d q)) rest) f ∙ (ap (λ y. roles ++ map (λ q. code_of (role_of d q)) y) (sym e) ∙ h.all_roles)));
      all_expanded = λ i. flag_more (λ q. takes_expanded i (role_of d q)) (get_or wide i false) (get_or wide' i false) (takes_expanded i (role_at p r)) (is_expanded d i)
          positions rest p (h.all_expanded i) e (x p i) (ap (takes_expanded i) back);
      all_raw = λ i. flag_more (λ q. takes_given i (role_of d q)) (get_or raw i false) (get_or raw' i false) (takes_given i (role_at p r)) (is_raw d i)
          positions rest p (h.all_raw i) e (w p i) (ap (takes_given i) back);
    }

pub uses_end : (d : Definition) (uses : Uses) (rest : List Position) → AreUsesSoFar d uses.roles.items uses.expanded.items uses.raw.items rest → rest ≡ [] → AreUses d uses
uses_end d uses rest h e = record {
  roles = sym (append-nil uses.roles.items) ∙ (ap (λ y. uses.roles.items ++ map (λ p. code_of (role_of d p)) y) (sym e) ∙ h.all_roles);
  expanded = λ i. ap (λ y. list_any (λ p. takes_expanded i (role_of d p)) y || get_or uses.expanded.items i false) (sym e) ∙ h.all_expanded i;
  raw = λ i. ap (λ y. list_any (λ p. takes_given i (role_of d p)) y || get_or uses.raw.items i false) (sym e) ∙ h.all_raw i;
}

-- a flag more that is not set, and one that is
pub unset_more : (flags : List Bool) (i : ℕ) → get_or (flags ++ false ∷ []) i false ≡ get_or flags i false
unset_more [] zero = refl
unset_more [] (suc i) = refl
unset_more (f ∷ flags) zero = refl
unset_more (f ∷ flags) (suc i) = unset_more flags i

pub set_one : (flags : List Bool) (index i : ℕ) → index < length flags → get_or (set flags index true) i false ≡ ((i == index) || get_or flags i false)
set_one flags index i h =
    ⊎_elim
    (λ (t : (i == index) ≡ true).
    let same : i ≡ index = grind (arith, nat_tests, t) in
    ap (λ n. get_or (set flags index true) n false) same ∙ (get_or-set_same flags index true false h ∙ sym (ap (λ x. x || get_or flags i false) t)))
    (λ (f : (i == index) ≡ false).
    get_or-set_other flags index i true false (λ same. absurd (differ same f)) ∙ sym (ap (λ x. x || get_or flags i false) f))
    (cases_Bool (i == index))
  where
    differ : i ≡ index → (i == index) ≡ false → ⊥
    differ same f = absurd (grind (arith, nat_tests, same, f))

-- ---- a replacement list without GNU's comma

or_from : (b : Bool) (r s : Role) → b ≡ false → (if b then r else s) ≡ s
or_from true r s h = absurd cc
or_from false r s h = refl

module _ (d : Definition) (none : HasNoGnuComma d) where
  follows_none : (before after : List Token) → reverse before ++ after ≡ d.body → follows_gnu_comma d before after ≡ false
  follows_none [] after e = refl
  follows_none (t ∷ before) after e = none before (t ∷ after) (moved before after t ∙ e)

  ends_none : (before after : List Token) → reverse before ++ after ≡ d.body → ends_gnu_comma d before after ≡ false
  ends_none [] after e = refl
  ends_none (t ∷ before) after e = follows_none before (t ∷ after) (moved before after t ∙ e)

  role_is_standard : (p : Position) → reverse p.before ++ (p.token ∷ p.after) ≡ d.body → role_of d p ≡ standard_role d p
  unfolding role_of
  role_is_standard p e =
      or_from (is_gnu_comma d p.before (p.token ∷ p.after)) gnu_comma
      (if follows_gnu_comma d p.before (p.token ∷ p.after) then gnu_paste
      else if ends_gnu_comma d p.before (p.token ∷ p.after) then gnu_variable (variable_index d) else standard_role d p)
      (none p.before (p.token ∷ p.after) e)
      ∙ (or_from (follows_gnu_comma d p.before (p.token ∷ p.after)) gnu_paste
      (if ends_gnu_comma d p.before (p.token ∷ p.after) then gnu_variable (variable_index d) else standard_role d p)
      (follows_none p.before (p.token ∷ p.after) e)
      ∙ or_from (ends_gnu_comma d p.before (p.token ∷ p.after)) (gnu_variable (variable_index d)) (standard_role d p) (ends_none p.before (p.token ∷ p.after) e))

  substitutes_from : (arguments : Arguments) (done : List (List Token)) (before after : List Token) → reverse before ++ after ≡ d.body
      → flat_map (λ p. substitutes_by arguments done p.token (role_of d p)) (positions_after before after)
      ≡ flat_map (λ p. substitutes_by arguments done p.token (standard_role d p)) (positions_after before after)
  substitutes_from arguments done before [] e = refl
  substitutes_from arguments done before (t ∷ after) e =
      ap₂ (λ x y. x ++ y)
      (ap (substitutes_by arguments done t) (role_is_standard (record { before = before; token = t; after = after }) e))
      (substitutes_from arguments done (t ∷ before) after (sym (moved before after t) ∙ e))

pub without_gnu_comma : (d : Definition) (arguments : Arguments) (done : List (List Token)) → HasNoGnuComma d
    → substitutes_of d arguments done ≡ standard_substitutes_of d arguments done
unfolding substitutes_of
without_gnu_comma d arguments done none = substitutes_from d none arguments done [] d.body refl

-- ---- a body and its roles, side by side

abbrev pub rest_roles : Definition → List Position → List code_role.Role
rest_roles d positions = map (λ p. code_of (role_of d p)) positions

pub next_role : (d : Definition) (roles after : List code_role.Role) (positions rest : List Position) (p : Position) (r : code_role.Role) → roles ≡ rest_roles d positions
    → positions ≡ p ∷ rest → roles ≡ r ∷ after → (role_at p r ≡ role_of d p) × (after ≡ rest_roles d rest)
next_role d roles after positions rest p r h e n =
    let both : r ∷ after ≡ code_of (role_of d p) ∷ rest_roles d rest = sym n ∙ (h ∙ ap (rest_roles d) e) in
    let one : r ≡ code_of (role_of d p) = cc in
    let others : after ≡ rest_roles d rest = cc in
    (ap (role_at p) one ∙ role_back d p, others)

-- what stands for one position more
pub put_in_more : (d : Definition) (arguments : Arguments) (done : List (List Token)) (out new all : List Substitute) (positions rest : List Position) (p : Position) (r : Role)
    → out ++ flat_map (λ q. substitutes_by arguments done q.token (role_of d q)) positions ≡ all → positions ≡ p ∷ rest
    → new ≡ out ++ substitutes_by arguments done p.token r → r ≡ role_of d p
    → new ++ flat_map (λ q. substitutes_by arguments done q.token (role_of d q)) rest ≡ all
put_in_more d arguments done out new all positions rest p r h e n is =
    ap (λ x. x ++ flat_map (λ q. substitutes_by arguments done q.token (role_of d q)) rest) (n ∙ ap (λ x. out ++ substitutes_by arguments done p.token x) is)
    ∙ (append_assoc out (substitutes_by arguments done p.token (role_of d p)) (flat_map (λ q. substitutes_by arguments done q.token (role_of d q)) rest)
    ∙ (ap (λ y. out ++ flat_map (λ q. substitutes_by arguments done q.token (role_of d q)) y) (sym e) ∙ h))
