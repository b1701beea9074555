-- The parts of tokens, one by one.
use Rattle.std.proofs.Common.{◌≡◌, List, [], ◌∷◌, ◌++◌, append-nil, ◌∙◌, sym, ap, subst, Bool, true, false, Some, None, refl}
use Rattle.std.proofs.lemmas.Bool.{cond-true, cond-false}
use Rattle.cx_tokens.specs.declared.token.Token.{Token}
use Rattle.cx_condition.specs.declared.part.Part.{Part}
use Rattle.cx_condition.specs.Parts.{is_prefix, part_of, parts_behind, wide_part}

pub parts_wide : (t : Token) (ts : List Token) → parts_behind true (t ∷ ts) ≡ wide_part t.text ∷ parts_behind false ts
unfolding parts_behind
parts_wide t ts = refl

pub parts_prefix : (t : Token) (ts : List Token) → is_prefix t ts ≡ true → parts_behind false (t ∷ ts) ≡ parts_behind true ts
unfolding parts_behind
parts_prefix t ts e = cond-true (is_prefix t ts) _ _ e

pub parts_alone : (t : Token) (ts : List Token) → is_prefix t ts ≡ false → parts_behind false (t ∷ ts) ≡ part_of t.kind t.text ∷ parts_behind false ts
unfolding parts_behind
parts_alone t ts e = cond-false (is_prefix t ts) _ _ e

pub parts_end : (prefixed : Bool) → parts_behind prefixed [] ≡ []
unfolding parts_behind
parts_end true = refl
parts_end false = refl

pub parts_done : (ps all : List Part) (prefixed : Bool) (rest : List Token) → rest ≡ [] → ps ++ parts_behind prefixed rest ≡ all → ps ≡ all
parts_done ps all prefixed rest e h = sym (append-nil ps) ∙ ap (λ r. ps ++ r) (sym (ap (parts_behind prefixed) e ∙ parts_end prefixed)) ∙ h
