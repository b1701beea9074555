use Rattle.std.proofs.Common.{◌≡◌, sym, ap, ◌∙◌, List, [], ◌∷◌}
use Rattle.cx_lex.specs.declared.before.Directive.TheVariants.{Nothing}
use Rattle.cx_lex.specs.declared.character.Character.{Character}
use Rattle.cx_lex.specs.Shapes.Fronts.{element_at, front_of, rest_of}
use Rattle.cx_lex.proofs.OnePiece.{found_one, one_front, one_rest}
use Rattle.cx_lex.proofs.single.one_piece.Goals as goal

no_first : (c : Character) (cs : List Character) → c ∷ cs ≡ [] → ⊥
no_first c cs e = absurd cc

pub returns-in_default : goal.returns-in_default
returns-in_default c kind text h =
    let e = c.in_ok-front.ensures.front ∙ ap (λ t. front_of (element_at Nothing t)) c.new-cursor.ensures ∙ one_front c.args.bytes.now kind text h in
    c.in_default.not-OfPiece _ _ _ e

pub returns-in-Some : goal.returns-in-Some
returns-in-Some c kind text h =
    let r = c.in_ok-front.ensures.rest ∙ ap (λ t. rest_of (element_at Nothing t)) c.new-cursor.ensures ∙ one_rest c.args.bytes.now kind text h in
    let k = c.in-Some.ensures in
    no_first _ k.0 (sym k.1 ∙ r)

pub returns-in_ok-text-in-None : goal.returns-in_ok-text-in-None
returns-in_ok-text-in-None c =
    found_one c.args.bytes.now _ c.in-OfPiece.kind c.in-OfPiece.spelled _
    (sym c.in-OfPiece.is ∙ (c.in_ok-front.ensures.front ∙ ap (λ t. front_of (element_at Nothing t)) c.new-cursor.ensures))
    (sym (c.in_ok-front.ensures.rest ∙ ap (λ t. rest_of (element_at Nothing t)) c.new-cursor.ensures) ∙ c.in-None.ensures)
    c.in_ok-text-in-None.ensures
