use Rattle.std.proofs.Common.{◌≡◌, ◌∷◌, ◌++◌, Some, sym, ◌∙◌, ap, subst, arith, option_map}
use Rattle.std.proofs.lemmas.Option.{MatchOption-at_some}
use Rattle.cx_macro.specs.Shapes.Counting.{bracketed, cut_at_comma}
use Rattle.cx_macro.specs.Shapes.Frames.{AreFrames, CommasCut, HaveFrames, IsInner}
use Rattle.cx_macro.specs.Shapes.Segments.{Spread}
use Rattle.cx_macro.proofs.SegmentLaws as laws
use Rattle.cx_macro.proofs.buffer.Buffer.cut.Goals as goal

pub returns : goal.returns
returns c =
    let ahead = c.self.inside.level.ahead in
    let frames = c.in_ok-frames.frames.now in
    let known : AreFrames frames ahead =
    subst (λ o. HaveFrames o ahead) (sym c.as_ref.ensures.value ∙ ap (option_map (λ r. r.now)) c.in_ok-frames.ensures.ok_part) c.self.invariant in
    let f = MatchOption-at_some _ _ c.in-Some.closing c.in-Some.is (c.closing_ahead.ensures ahead known) in
    let b = f.0 in
    let end = b.closing ∷ f.1 in
    let inner : IsInner (record { left = frames.len; behind = c.in-Some.closing.now.behind; commas = c.as_slice.result }) b.inner end = record {
      left = f.5;
      behind = let h = f.4 in omega (arith, h);
      commas = subst (λ p. CommasCut p (cut_at_comma 0 b.inner).after end) (sym c.as_slice.ensures) f.6;
    } in
    let found : bracketed 0 c.args.self.now.ahead ≡ Some b = subst (λ (s : Spread). bracketed 0 s.ahead ≡ Some b) c.self.view_is f.2 in
    let given = MatchOption-at_some _ _ c.in-Some-2.arguments c.in-Some-2.is (c.in_ok-arguments.ensures b.inner end inner) in
    let segments = c.in-Some-2.arguments.segments.items in
    let cut = c.in_ok-cut_off.ensures b given.0 found (c.len-length.ensures b.inner end inner) given.2 in
    record {
      brackets = b;
      raw = given.0;
      found = found;
      split = given.1;
      counted = sym (c.len-arguments.ensures ∙ (c.in-Some-2.arguments.segments.ok.0
          ∙ laws.cuts_length segments (b.inner ++ b.closing ∷ b.after) given.0 b.after (given.2 b.closing b.after)));
      hides = c.in_ok-hide.ensures ∙ f.3;
      done = cut.0;
      cut = cut.1;
    }
