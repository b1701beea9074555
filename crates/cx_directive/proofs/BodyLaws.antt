-- The body of a macro.
use Rattle.std.proofs.Common.{◌≡◌, ℕ, suc, ◌-◌, ◌<◌, Bool, true, false, not, cond, ◌&&◌, List, [], ◌∷◌, length, map, get_or, Option, Some, None, bytes_eq, refl, sym, ◌∙◌, ap, ap₂, arith}
use Rattle.cx_tokens.specs.declared.token.Kind.{Kind}
use Rattle.cx_tokens.specs.declared.token.Kind.TheVariants.{Punct}
use Rattle.cx_tokens.specs.declared.token.Token.{Token}
use Rattle.cx_tokens.specs.Brackets.{is_punct, is_punctuator}
use Rattle.cx_tokens.specs.Simplified.{is_name}
use Rattle.cx_lex.specs.declared.piece.Piece.{Piece}
use Rattle.cx_macro.specs.Macros.{is_paste, variable_name}
use Rattle.cx_directive.specs.Defines.{begins_paste, ends_paste, pastes_stand, renamed, with_variable}
use Rattle.cx_directive.specs.Operands.{tokens_of}

-- the last token says whether tokens end with `##`
pub last_paste : (pieces : List Piece) (p : Piece) → 0 < length pieces → p ≡ get_or pieces (length pieces - 1) p → is_paste p.token ≡ ends_paste (tokens_of pieces)
last_paste [] p l h = absurd (omega arith)
last_paste (x ∷ []) p l h = ap (λ (q : Piece). is_paste q.token) h
last_paste (x ∷ y ∷ ys) p l h =
    let e : suc (suc (length ys)) - 1 ≡ suc (length ys) = omega arith in
    let f : suc (length ys) - 1 ≡ length ys = omega arith in
    last_paste (y ∷ ys) p (omega arith) (h ∙ (ap (λ n. get_or (x ∷ y ∷ ys) n p) e ∙ ap (λ n. get_or (y ∷ ys) n p) (sym f)))

pub no_sign : (k : Kind) → is_name k ≡ true → is_punct k ≡ false
no_sign Punct h = absurd cc
no_sign k h = refl

-- another name is no `##`
renamed_paste : (name : List ℕ) (t : Token) → is_paste (renamed name t) ≡ is_paste t
unfolding is_punctuator
renamed_paste name t = by (is_name t.kind) refl (bytes_eq t.text name)
  where
    by : (n : Bool) → is_name t.kind ≡ n → (b : Bool) → is_paste (cond (n && b) (record t { text = variable_name }) t) ≡ is_paste t
    by true h true = rw (no_sign t.kind h) refl
    by true h false = refl
    by false h b = refl

renamed_begins : (name : List ℕ) (body : List Token) → begins_paste (map (renamed name) body) ≡ begins_paste body
renamed_begins name [] = refl
renamed_begins name (t ∷ ts) = renamed_paste name t

renamed_ends : (name : List ℕ) (body : List Token) → ends_paste (map (renamed name) body) ≡ ends_paste body
renamed_ends name [] = refl
renamed_ends name (t ∷ []) = renamed_paste name t
renamed_ends name (t ∷ u ∷ ts) = renamed_ends name (u ∷ ts)

pub variable_pastes : (variable : Option (List ℕ)) (body : List Token) → pastes_stand (with_variable variable body) ≡ pastes_stand body
variable_pastes None body = refl
variable_pastes (Some name) body = ap₂ (λ (a b : Bool). not a && not b) (renamed_begins name body) (renamed_ends name body)
