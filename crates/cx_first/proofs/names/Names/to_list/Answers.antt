use Rattle.std.proofs.Common.{◌≡◌, ◌<◌, ◌∙◌, ◌++◌, ◌∷◌, [], None, Some, option_map, slice_get, ap, sym, subst, length, take}
use Rattle.cx_first.proofs.NameLaws.{next_name, some_entry}
use Rattle.cx_first.proofs.names.Names.to_list.Goals as goal
use Rattle.cx_first.proofs.names.Names.to_list.Goals.{in-Some+in_ok-from_slice+in_ok-push, in_default}

pub loop-index-preserved : goal.loop-index-preserved
loop-index-preserved c = elim c.match-entry_at.branch [
  | in-Some+in_ok-from_slice+in_ok-push w ↦
      let next = next_name c.self.inside.names c.args.self.now c.loop-index.index w.in-Some.name.now c.self.view_is w.in-Some.ensures in
      w.list-is ∙ (w.in_ok-push.ensures.ok ∙ (ap (λ l. l ++ w.in_ok-from_slice.field-0 ∷ []) c.loop-index.invariant
      ∙ (ap (λ n. take c.loop-index.index c.args.self.now ++ n ∷ []) w.in_ok-from_slice.ensures ∙ sym next)))
  | in_default w ↦
      let none : slice_get c.self.inside.names c.loop-index.index ≡ None = sym w.in_default.ensures in
      let within : c.loop-index.index < length c.self.inside.names = subst (λ n. c.loop-index.index < n) c.len-index-end.ensures.len c.loop-index-test.true in
      absurd (some_entry c.self.inside.names c.loop-index.index within none)
]
