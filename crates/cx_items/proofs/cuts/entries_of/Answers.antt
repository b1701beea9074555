use Rattle.std.proofs.Common.{◌≡◌, ◌++◌, ◌∷◌, [], ap, arith, length, vec_len, reverse, sym, ◌∙◌}
use Rattle.std.proofs.lemmas.List.{append_assoc, append-nil}
use Rattle.cx_items.specs.Shapes.Ends.{ahead, before, kinds}
use Rattle.cx_items.proofs.StackLaws.{entered, further, no_entries, no_parts}
use Rattle.cx_items.proofs.cuts.entries_of.Goals as goal

pub loop-part-init : goal.loop-part-init
loop-part-init c = (
  [],
  sym (append-nil c.args.parts.items),
  c.nothing-ahead.ensures ∙ sym no_parts,
  ap reverse c.new-entries.ensures.items ∙ sym no_entries,
)

pub loop-part-preserved : goal.loop-part-preserved
loop-part-preserved c =
    let done = c.loop-part.invariant.0 in
    let part = c.in-Some.part in
    let count : vec_len c.loop-part.entries ≡ length c.loop-part.entries.items = omega arith in
    let ahead_is : c.before-ahead.result ≡ ahead (kinds (part ∷ done)) =
    c.before-ahead.ensures ∙ ap (λ n. before part.kind n c.loop-part.ahead) (c.len.ensures ∙ count)
    ∙ further part done c.loop-part.entries.items c.loop-part.ahead c.loop-part.invariant.2 c.loop-part.invariant.3 in (
      part ∷ done,
      c.loop-part.invariant.1 ∙ ap (λ l. l ++ done) c.in-Some.ensures.items ∙ append_assoc c.pop.new.self.items (part ∷ []) done,
      ahead_is,
      entered part done c.loop-part.entries.items c.push.new.self.items c.before-ahead.result _ ahead_is c.loop-part.invariant.3
          c.in_ok-push.ensures.items (ap (λ b. record { first = part.first; behind = b }) c.item_behind.ensures),
    )
