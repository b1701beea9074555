-- Parameters, by what stands between commas.
use Rattle.std.proofs.Common.{◌≡◌, ℕ, List, [], ◌∷◌, ◌++◌, Option, Some, None, option_and_then, option_map, refl, sym, ◌∙◌, ap, subst}
use Rattle.std.proofs.lemmas.List.{append_assoc}
use Rattle.std.specs.List.{slice_split}
use Rattle.cx_tokens.specs.declared.token.Token.{Token}
use Rattle.cx_macro.specs.Arguments.{is_comma}
use Rattle.cx_directive.specs.Defines.{Parameters, joined_parameters, last_parameter, one_name, with_name}
use Rattle.cx_directive.specs.Shapes.Cuts.{cut_at}
use Rattle.cx_directive.specs.Shapes.Found.{with_names}
use Rattle.cx_directive.proofs.CutLaws.{split_at, split_by}

abbrev pub joined : List Token → Option Parameters
joined ts = joined_parameters (slice_split is_comma ts)

-- parameters with a name before them, where there is one
abbrev pub after_name : Option (List ℕ) → Option Parameters → Option Parameters
after_name name p = option_and_then (λ x. option_map (with_name x) p) name

joined_on : (part : List Token) (ts : List Token) (c : Option (List Token × List Token))
    → joined_parameters (part ∷ split_by is_comma ts c) ≡ after_name (one_name part) (joined_parameters (split_by is_comma ts c))
unfolding joined_parameters
joined_on part ts None = refl
joined_on part ts (Some c) = refl

pub joined_cut : (ts a b : List Token) → Some (a, b) ≡ cut_at is_comma ts → joined ts ≡ after_name (one_name a) (joined b)
joined_cut ts a b h =
    ap joined_parameters (split_at is_comma ts ∙ ap (split_by is_comma ts) (sym h))
    ∙ subst (λ (xs : List (List Token)). joined_parameters (a ∷ xs) ≡ after_name (one_name a) (joined_parameters xs)) (sym (split_at is_comma b)) (joined_on a b (cut_at is_comma b))

joined_last : (ts : List Token) → None ≡ cut_at is_comma ts → joined ts ≡ last_parameter ts
unfolding joined_parameters
joined_last ts h = ap joined_parameters (split_at is_comma ts ∙ ap (split_by is_comma ts) (sym h))

-- ---- the loop over the names

pub no_names_yet : (names : List (List ℕ)) (ts : List Token) → names ≡ [] → joined ts ≡ option_map (with_names names) (joined ts)
no_names_yet names ts e = same (joined ts) ∙ ap (λ (n : List (List ℕ)). option_map (with_names n) (joined ts)) (sym e)
  where
    same : (p : Option Parameters) → p ≡ option_map (with_names []) p
    same None = refl
    same (Some p) = refl

pub no_name : (names : List (List ℕ)) (left a b : List Token) (all : Option Parameters) → all ≡ option_map (with_names names) (joined left) → Some (a, b) ≡ cut_at is_comma left
    → None ≡ one_name a → None ≡ all
no_name names left a b all h c n =
    sym (h ∙ (ap (option_map (with_names names)) (joined_cut left a b c) ∙ ap (λ (x : Option (List ℕ)). option_map (with_names names) (after_name x (joined b))) (sym n)))

pub one_name_more : (names new : List (List ℕ)) (name : List ℕ) (left a b : List Token) (all : Option Parameters) → all ≡ option_map (with_names names) (joined left)
    → Some (a, b) ≡ cut_at is_comma left → Some name ≡ one_name a → new ≡ names ++ name ∷ [] → all ≡ option_map (with_names new) (joined b)
one_name_more names new name left a b all h c n e =
    h
    ∙ (ap (option_map (with_names names)) (joined_cut left a b c)
    ∙ (ap (λ (x : Option (List ℕ)). option_map (with_names names) (after_name x (joined b))) (sym n)
    ∙ (more (joined b) ∙ ap (λ (x : List (List ℕ)). option_map (with_names x) (joined b)) (sym e))))
  where
    more : (p : Option Parameters) → option_map (with_names names) (option_map (with_name name) p) ≡ option_map (with_names (names ++ name ∷ [])) p
    more None = refl
    more (Some p) =
        ap (λ (x : List (List ℕ)). Some (record { names = x; variadic = p.variadic; variable = p.variable })) (sym (append_assoc names (name ∷ []) p.names))

pub all_joined : (names : List (List ℕ)) (left : List Token) (all p : Option Parameters) → all ≡ option_map (with_names names) (joined left) → None ≡ cut_at is_comma left
    → p ≡ option_map (with_names names) (last_parameter left) → p ≡ all
all_joined names left all p h c e = e ∙ (ap (option_map (with_names names)) (sym (joined_last left c)) ∙ sym h)
