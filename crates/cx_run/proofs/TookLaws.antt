-- What two sinks hold, piece by piece.
use Rattle.std.proofs.Common.{◌≡◌, ℕ, ◌+◌, ◌<◌, List, [], ◌∷◌, ◌++◌, take, drop, length, get_or, refl, sym, ap, subst, ◌∙◌, append_assoc, add-one, suc, take-suc, drop-cons}
use Rattle.std.proofs.lemmas.List.{take-append-drop}
use Rattle.cx_base.specs.Outside.{Appends}
use Rattle.cx_base.proofs.AppendLaws.{appends_both}
use Rattle.cx_run.specs.declared.report.ReportPiece.{ReportPiece}
use Rattle.cx_run.specs.declared.report.SinkName.{SinkName}
use Rattle.cx_run.specs.declared.report.SinkName.TheVariants.{Out, Err}
use Rattle.cx_run.specs.Shapes.Stops.{TookFirst, TookFront}
use Rattle.cx_run.specs.Written.{IsFront, Sinks, Took, bytes_to, text_for}

bytes_to-append : (sink : SinkName) (front back : List ReportPiece) → bytes_to sink (front ++ back) ≡ bytes_to sink front ++ bytes_to sink back
bytes_to-append sink [] back = refl
bytes_to-append sink (piece ∷ front) back =
    ap (λ l. text_for sink piece.sink piece.bytes ++ l) (bytes_to-append sink front back)
    ∙ sym (append_assoc (text_for sink piece.sink piece.bytes) (bytes_to sink front) (bytes_to sink back))

-- two writings one after the other
pub took_both : (before middle after : Sinks) (front back : List ReportPiece)
    → Took before middle front → Took middle after back → Took before after (front ++ back)
took_both before middle after front back p q = record {
  out = subst (Appends before.out after.out) (sym (bytes_to-append Out front back))
      (appends_both before.out middle.out after.out (bytes_to Out front) (bytes_to Out back) p.out q.out);
  err = subst (Appends before.err after.err) (sym (bytes_to-append Err front back))
      (appends_both before.err middle.err after.err (bytes_to Err front) (bytes_to Err back) p.err q.err);
}

module _ (before middle after : Sinks) (pieces : List ReportPiece) (piece : ReportPiece) (at : ℕ)
    (below : at < length pieces) (is : piece ≡ get_or pieces at piece) (took : Took before middle (take at pieces)) where
  -- one more piece was written
  pub took_next : Took middle after (piece ∷ []) → Took before after (take (at + 1) pieces)
  took_next next =
      let front : take (at + 1) pieces ≡ take at pieces ++ piece ∷ [] =
      rw add-one (take-suc pieces at piece below ∙ ap (λ x. take at pieces ++ x ∷ []) (sym is)) in
      subst (Took before after) (sym front) (took_both before middle after (take at pieces) (piece ∷ []) took next)

  -- the first bytes of the next piece were written
  pub took_front : TookFirst middle after piece → TookFront before after pieces piece.sink
  took_front next =
      let splits : pieces ≡ take at pieces ++ piece ∷ drop (suc at) pieces =
      sym (take-append-drop at pieces) ∙ ap (λ l. take at pieces ++ l)
      (drop-cons pieces at piece below ∙ ap (λ x. x ∷ drop (suc at) pieces) (sym is)) in
      let first : ReportPiece = record piece { bytes = take next.0 piece.bytes } in
      let begins : IsFront pieces (take at pieces ++ first ∷ []) piece.sink = record {
        whole = take at pieces;
        next = piece;
        after = drop (suc at) pieces;
        count = next.0;
        splits = splits;
        joins = refl;
        goes = refl;
      } in (
        take at pieces ++ first ∷ [],
        begins,
        took_both before middle after (take at pieces) (first ∷ []) took next.1,
      )
