-- What a walk through a list knows where it finds the place of an entry.
use Rattle.std.proofs.Common.{◌≡◌, ℕ, ◌+◌, ◌<◌, List, [], ◌∷◌, ◌++◌, take, drop, length, get_or, sym, ap, ◌∙◌, add-one, drop-cons, take-suc, append_assoc, arith, suc}
use Rattle.std.proofs.lemmas.List.{take-append-drop, drop_all}
use Rattle.std.specs.declared.cmp.Ordering.TheVariants.{Less, Equal, Greater}
use Rattle.cx_base.specs.declared.answers.Entry.{Entry}
use Rattle.cx_base.specs.Folders.{entry_cmp}
use Rattle.cx_base.specs.Shapes.Members.{added, placed}

module _ (entry other : Entry) (entries : List Entry) (at : ℕ) (below : at < length entries) (is : other ≡ get_or entries at other) where
  next : drop at entries ≡ other ∷ drop (at + 1) entries
  next = drop-cons entries at other below ∙ (rw add-one (ap (λ x. x ∷ drop (suc at) entries) (sym is)))

  step : added entry (drop at entries) ≡ placed (entry_cmp entry other) entry other (drop (at + 1) entries) (added entry (drop (at + 1) entries))
  unfolding added
  step = ap (λ l. added entry l) next

  pub found_less : entry_cmp entry other ≡ Less → added entry entries ≡ take at entries ++ added entry (drop at entries)
      → added entry entries ≡ take at entries ++ entry ∷ drop at entries
  found_less less so_far =
      so_far ∙ ap (λ l. take at entries ++ l) (step ∙ ap (λ o. placed o entry other (drop (at + 1) entries) (added entry (drop (at + 1) entries))) less ∙ ap (λ l. entry ∷ l) (sym next))

  pub found_equal : entry_cmp entry other ≡ Equal → added entry entries ≡ take at entries ++ added entry (drop at entries)
      → added entry entries ≡ entries
  found_equal equal so_far =
      so_far ∙ ap (λ l. take at entries ++ l) (step ∙ ap (λ o. placed o entry other (drop (at + 1) entries) (added entry (drop (at + 1) entries))) equal ∙ sym next) ∙ take-append-drop at entries

  pub found_greater : entry_cmp entry other ≡ Greater → added entry entries ≡ take at entries ++ added entry (drop at entries)
      → added entry entries ≡ take (at + 1) entries ++ added entry (drop (at + 1) entries)
  found_greater greater so_far =
      let front : take (at + 1) entries ≡ take at entries ++ other ∷ [] = rw add-one (take-suc entries at other below ∙ ap (λ x. take at entries ++ x ∷ []) (sym is)) in
      so_far ∙ ap (λ l. take at entries ++ l) (step ∙ ap (λ o. placed o entry other (drop (at + 1) entries) (added entry (drop (at + 1) entries))) greater)
      ∙ sym (append_assoc (take at entries) (other ∷ []) (added entry (drop (at + 1) entries))) ∙ ap (λ l. l ++ added entry (drop (at + 1) entries)) (sym front)

pub found_end : (entry : Entry) (entries : List Entry) (at : ℕ) → at ≡ length entries → added entry entries ≡ take at entries ++ added entry (drop at entries)
    → added entry entries ≡ take at entries ++ entry ∷ drop at entries
unfolding added
found_end entry entries at e so_far =
    let nothing : drop at entries ≡ [] = drop_all at entries (omega arith) in
    so_far ∙ ap (λ l. take at entries ++ l) (ap (λ l. added entry l) nothing ∙ sym (ap (λ l. entry ∷ l) nothing))
