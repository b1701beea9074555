use Rattle.std.proofs.Common.{◌≡◌, ◌<◌, ◌≤◌, ap, get_or, length, subst, ◌∙◌, sym, arith}
use Rattle.std.proofs.lemmas.Bool.{ltb-false}
use Rattle.cx_asking.proofs.IndexLaws.{number_within, text_is}
use Rattle.cx_asking.proofs.asked.lexed_of.Goals as goal

pub returns-in-Some-get : goal.returns-in-Some-get
returns-in-Some-get c =
    let slice : c.as_slice.result.now ≡ c.args.shelf.now.files = c.as_slice.ensures ∙ ap (λ s. s.files) c.shelf.ensures in
    text_is c.args.shelf.now c.args.path.now c.in-Some.number c.in-Some-get.file.now c.in-Some.ensures
    (subst (λ s. c.in-Some.number < length s) slice c.in-Some-get.ensures.lookup.3.0)
    (subst (λ s. c.in-Some-get.file.now ≡ get_or s c.in-Some.number c.in-Some-get.file.now) slice c.in-Some-get.ensures.lookup.1)

pub returns-in-None : goal.returns-in-None
returns-in-None c =
    let slice : c.as_slice.result.now ≡ c.args.shelf.now.files = c.as_slice.ensures ∙ ap (λ s. s.files) c.shelf.ensures in
    let within : c.in-Some.number < length c.args.shelf.now.files = number_within c.args.shelf.now c.args.path.now c.in-Some.number c.in-Some.ensures in
    let past : length c.as_slice.result.now ≤ c.in-Some.number = ltb-false _ _ (sym c.in-None.ensures.lookup.0) in
    absurd (omega (arith, ap length slice))
