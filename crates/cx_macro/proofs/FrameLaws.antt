-- The frames of the tokens ahead tell a call's brackets and commas.
use Rattle.std.proofs.Common.{◌≡◌, ℕ, zero, suc, ◌+◌, ◌-◌, ◌<◌, ◌≤◌, Bool, true, false, cond, ◌&&◌, ◌==◌, List, [], ◌∷◌, ◌++◌, Option, Some, None, MatchOption, length, length-append, reverse, take, refl, sym, ◌∙◌, ap, ap₂, subst, arith}
use Rattle.cx_tokens.specs.declared.token.Token.{Token}
use Rattle.cx_macro.specs.declared.frames.Frame.{Frame}
use Rattle.cx_macro.specs.declared.frames.Frames.{Frames}
use Rattle.cx_macro.specs.declared.arguments.Inner.{Inner}
use Rattle.cx_macro.specs.declared.segment.Segment.{Segment}
use Rattle.cx_macro.specs.Shapes.Segments.{ahead_of, left_behind}
use Rattle.cx_macro.specs.Arguments.{Bracketed, is_close, is_comma, is_open}
use Rattle.cx_macro.specs.Shapes.Counting.{Cut, bracketed, cut_at_comma, with_inner}
use Rattle.cx_macro.specs.Shapes.Frames.{AreFrames, CommasCut, IsAfter, IsFrame, IsInner, frame_at, frames_of, openings_of, outside, with_comma}
use Rattle.cx_macro.proofs.CallLaws.{cut_counts, cut_goes, is_close_is_not_open, is_open_is_not_close, is_open_is_not_comma}
use Rattle.cx_macro.specs.Shapes.Calls.{deeper}
use Rattle.cx_macro.proofs.CountingLaws.{at_depth, deeper_close, deeper_open, deeper_plain, within_depth}
use Rattle.cx_macro.proofs.SegmentLaws.{bracketed_whole_at}

pub frames_close : (t : Token) (ts : List Token) → is_close t ≡ true
    → frames_of (t ∷ ts) ≡ (record { hide = t.hide; behind = length ts; commas = [] }) ∷ frames_of ts
unfolding frames_of
frames_close t ts c = rw c refl

pub frames_open : (t : Token) (ts : List Token) → is_open t ≡ true → frames_of (t ∷ ts) ≡ outside (frames_of ts)
unfolding frames_of
frames_open t ts o = rw (is_open_is_not_close t o) (rw o refl)

pub frames_comma : (t : Token) (ts : List Token) → is_close t ≡ false → is_open t ≡ false → is_comma t ≡ true
    → frames_of (t ∷ ts) ≡ with_comma (length ts) (frames_of ts)
unfolding frames_of
frames_comma t ts c o m = rw c (rw o (rw m refl))

pub frames_plain : (t : Token) (ts : List Token) → is_close t ≡ false → is_open t ≡ false → is_comma t ≡ false
    → frames_of (t ∷ ts) ≡ frames_of ts
unfolding frames_of
frames_plain t ts c o m = rw c (rw o (rw m refl))

pub openings_open : (t : Token) (ts : List Token) → is_open t ≡ true → openings_of (t ∷ ts) ≡ frame_at 0 (frames_of ts) ∷ openings_of ts
unfolding openings_of
openings_open t ts o = rw o refl

pub openings_plain : (t : Token) (ts : List Token) → is_open t ≡ false → openings_of (t ∷ ts) ≡ openings_of ts
unfolding openings_of
openings_plain t ts o = rw o refl

-- the frame at a depth is that of the brackets at it
pub FrameIs : ℕ → Option Bracketed → Option Frame → Type 0
FrameIs depth None None = Unit {0}
FrameIs depth None (Some f) = ⊥
FrameIs depth (Some b) None = ⊥
FrameIs depth (Some b) (Some f) = IsFrame depth b f

-- a token is put before what stands between brackets
inner_more : (d e : ℕ) (t : Token) (r : Option Bracketed) (o : Option Frame)
    → ((inner : List Token) → (cut_at_comma d (t ∷ inner)).after ≡ (cut_at_comma e inner).after) → FrameIs e r o → FrameIs d (with_inner t r) o
unfolding FrameIs
inner_more d e t None None c h = tt
inner_more d e t None (Some f) c h = h
inner_more d e t (Some b) None c h = h
inner_more d e t (Some b) (Some f) c h = record {
  behind = h.behind;
  hide = h.hide;
  commas = subst (λ x. CommasCut f.commas x (b.closing ∷ b.after)) (sym (c b.inner)) h.commas;
}

-- a comma is put before what stands between brackets
comma_more : (t : Token) (ts : List Token) (r : Option Bracketed) (fs : List Frame) → is_comma t ≡ true
    → ((b : Bracketed) → r ≡ Some b → ts ≡ b.inner ++ b.closing ∷ b.after)
    → FrameIs 0 r (frame_at 0 fs) → FrameIs 0 (with_inner t r) (frame_at 0 (with_comma (length ts) fs))
unfolding FrameIs cut_at_comma
comma_more t ts None [] m w h = tt
comma_more t ts None (f ∷ fs) m w h = h
comma_more t ts (Some b) [] m w h = h
comma_more t ts (Some b) (f ∷ fs) m w h = record {
  behind = h.behind;
  hide = h.hide;
  commas = (b.inner, rw m refl, ap length (w b refl), h.commas);
}

at_outside : (d : ℕ) (fs : List Frame) → frame_at d (outside fs) ≡ frame_at (suc d) fs
at_outside d [] = refl
at_outside d (f ∷ fs) = refl

at_comma : (d n : ℕ) (fs : List Frame) → frame_at (suc d) (with_comma n fs) ≡ frame_at (suc d) fs
at_comma d n [] = refl
at_comma d n (f ∷ fs) = refl

-- what is cut at a comma behind a token
cut_step : (d : ℕ) (t : Token) (inner : List Token) → ((d == 0) && is_comma t) ≡ false
    → (cut_at_comma d (t ∷ inner)).after ≡ (cut_at_comma (deeper d t) inner).after
cut_step d t inner e = ap (λ (c : Cut). c.after) (cut_goes [] d t inner e)

cut_close : (d : ℕ) (t : Token) (inner : List Token) → is_close t ≡ true
    → (cut_at_comma (suc d) (t ∷ inner)).after ≡ (cut_at_comma d inner).after
cut_close d t inner c = cut_step (suc d) t inner (within_depth d (is_comma t)) ∙ ap (λ n. (cut_at_comma n inner).after) (deeper_close d t c)

cut_open : (d : ℕ) (t : Token) (inner : List Token) → is_open t ≡ true
    → (cut_at_comma d (t ∷ inner)).after ≡ (cut_at_comma (suc d) inner).after
cut_open d t inner o = cut_step d t inner (at_depth d (is_comma t) (is_open_is_not_comma t o)) ∙ ap (λ n. (cut_at_comma n inner).after) (deeper_open d t o)

cut_plain : (d : ℕ) (t : Token) (inner : List Token) → is_close t ≡ false → is_open t ≡ false → is_comma t ≡ false
    → (cut_at_comma d (t ∷ inner)).after ≡ (cut_at_comma d inner).after
cut_plain d t inner c o m = cut_step d t inner (at_depth d (is_comma t) m) ∙ ap (λ n. (cut_at_comma n inner).after) (deeper_plain d t o c)

cut_within : (d : ℕ) (t : Token) (inner : List Token) → is_close t ≡ false → is_open t ≡ false
    → (cut_at_comma (suc d) (t ∷ inner)).after ≡ (cut_at_comma (suc d) inner).after
cut_within d t inner c o = cut_step (suc d) t inner (within_depth d (is_comma t)) ∙ ap (λ n. (cut_at_comma n inner).after) (deeper_plain (suc d) t o c)

pub frame_is : (d : ℕ) (ts : List Token) → FrameIs d (bracketed d ts) (frame_at d (frames_of ts))
unfolding FrameIs bracketed frames_of cut_at_comma
frame_is zero [] = tt
frame_is (suc d) [] = tt
frame_is zero (t ∷ ts) = at (is_close t) (is_open t) (is_comma t) refl refl refl (λ n. frame_is n ts)
  where
    at : (c o m : Bool) → is_close t ≡ c → is_open t ≡ o → is_comma t ≡ m → ((n : ℕ) → FrameIs n (bracketed n ts) (frame_at n (frames_of ts)))
        → FrameIs 0 (cond c (Some (record { inner = []; closing = t; after = ts })) (with_inner t (bracketed (cond o 1 0) ts)))
        (frame_at 0 (cond c ((record { hide = t.hide; behind = length ts; commas = [] }) ∷ frames_of ts) (cond o (outside (frames_of ts)) (cond m (with_comma (length ts) (frames_of ts)) (frames_of ts)))))
    at true o m ec eo em next = record { behind = refl; hide = refl; commas = refl }
    at false true m ec eo em next =
        subst (λ x. FrameIs 0 (with_inner t (bracketed 1 ts)) x) (sym (at_outside 0 (frames_of ts)))
        (inner_more 0 1 t (bracketed 1 ts) (frame_at 1 (frames_of ts)) (λ inner. cut_open 0 t inner eo) (next 1))
    at false false true ec eo em next = comma_more t ts (bracketed 0 ts) (frames_of ts) em (λ b e. bracketed_whole_at 0 ts b e) (next 0)
    at false false false ec eo em next = inner_more 0 0 t (bracketed 0 ts) (frame_at 0 (frames_of ts)) (λ inner. cut_plain 0 t inner ec eo em) (next 0)
frame_is (suc d) (t ∷ ts) = at (is_close t) (is_open t) (is_comma t) refl refl refl (λ n. frame_is n ts)
  where
    at : (c o m : Bool) → is_close t ≡ c → is_open t ≡ o → is_comma t ≡ m → ((n : ℕ) → FrameIs n (bracketed n ts) (frame_at n (frames_of ts)))
        → FrameIs (suc d) (with_inner t (bracketed (cond c d (cond o (suc (suc d)) (suc d))) ts))
        (frame_at (suc d) (cond c ((record { hide = t.hide; behind = length ts; commas = [] }) ∷ frames_of ts) (cond o (outside (frames_of ts)) (cond m (with_comma (length ts) (frames_of ts)) (frames_of ts)))))
    at true o m ec eo em next = inner_more (suc d) d t (bracketed d ts) (frame_at d (frames_of ts)) (λ inner. cut_close d t inner ec) (next d)
    at false true m ec eo em next =
        subst (λ x. FrameIs (suc d) (with_inner t (bracketed (suc (suc d)) ts)) x) (sym (at_outside (suc d) (frames_of ts)))
        (inner_more (suc d) (suc (suc d)) t (bracketed (suc (suc d)) ts) (frame_at (suc (suc d)) (frames_of ts)) (λ inner. cut_open (suc d) t inner eo) (next (suc (suc d))))
    at false false true ec eo em next =
        subst (λ x. FrameIs (suc d) (with_inner t (bracketed (suc d) ts)) x) (sym (at_comma d (length ts) (frames_of ts)))
        (inner_more (suc d) (suc d) t (bracketed (suc d) ts) (frame_at (suc d) (frames_of ts)) (λ inner. cut_within d t inner ec eo) (next (suc d)))
    at false false false ec eo em next = inner_more (suc d) (suc d) t (bracketed (suc d) ts) (frame_at (suc d) (frames_of ts)) (λ inner. cut_within d t inner ec eo) (next (suc d))

-- the frames of no tokens
pub no_frames : (fs : List Frame) (os : List (Option Frame)) → fs ≡ [] → os ≡ [] → AreFrames (record { len = 0; frames = fs; openings = os }) []
unfolding frames_of openings_of
no_frames fs os f o = record { len = refl; frames = f; openings = o }

-- a token is put before the others
pub added_close : (s : Frames) (ts : List Token) (t : Token) (len : ℕ) (fs : List Frame) (hide : List (List ℕ)) (commas : List ℕ) → AreFrames s ts
    → len ≡ s.len + 1 → is_close t ≡ true → hide ≡ t.hide → commas ≡ []
    → fs ≡ (record { hide = hide; behind = s.len; commas = commas }) ∷ s.frames → AreFrames (record { len = len; frames = fs; openings = s.openings }) (t ∷ ts)
added_close s ts t len fs hide commas a n c h m e = record {
  len = let l = a.len in omega arith;
  frames = e ∙ (ap₂ (λ x y. (record { hide = x; behind = s.len; commas = y }) ∷ s.frames) h m
      ∙ (ap₂ (λ x y. (record { hide = t.hide; behind = x; commas = [] }) ∷ y) a.len a.frames ∙ sym (frames_close t ts c)));
  openings = a.openings ∙ sym (openings_plain t ts (is_close_is_not_open t c));
}

first_frame : (o : Option Frame) (old fs : List Frame) → MatchOption o ((old ≡ []) × (fs ≡ [])) (λ x. old ≡ x ∷ fs) → (o ≡ frame_at 0 old) × (fs ≡ outside old)
first_frame None old fs h = (ap (frame_at 0) (sym h.0), h.1 ∙ ap outside (sym h.0))
first_frame (Some x) old fs h = (ap (frame_at 0) (sym h), ap outside (sym h))

pub added_open : (s : Frames) (ts : List Token) (t : Token) (len : ℕ) (o : Option Frame) (fs : List Frame) (os : List (Option Frame)) → AreFrames s ts
    → len ≡ s.len + 1 → is_open t ≡ true → MatchOption o ((s.frames ≡ []) × (fs ≡ [])) (λ x. s.frames ≡ x ∷ fs) → os ≡ o ∷ s.openings
    → AreFrames (record { len = len; frames = fs; openings = os }) (t ∷ ts)
added_open s ts t len o fs os a n c h e =
    let p = first_frame o s.frames fs h in
    record {
      len = let l = a.len in omega arith;
      frames = p.1 ∙ (ap outside a.frames ∙ sym (frames_open t ts c));
      openings = e ∙ (ap₂ (λ x y. x ∷ y) (p.0 ∙ ap (frame_at 0) a.frames) a.openings ∙ sym (openings_open t ts c));
    }

pub added_comma : (s : Frames) (ts : List Token) (t : Token) (len : ℕ) (fs : List Frame) → AreFrames s ts
    → len ≡ s.len + 1 → is_close t ≡ false → is_open t ≡ false → is_comma t ≡ true → fs ≡ with_comma s.len s.frames
    → AreFrames (record { len = len; frames = fs; openings = s.openings }) (t ∷ ts)
added_comma s ts t len fs a n c o m e = record {
  len = let l = a.len in omega arith;
  frames = e ∙ (ap₂ with_comma a.len a.frames ∙ sym (frames_comma t ts c o m));
  openings = a.openings ∙ sym (openings_plain t ts o);
}

pub added_plain : (s : Frames) (ts : List Token) (t : Token) (len : ℕ) → AreFrames s ts
    → len ≡ s.len + 1 → is_close t ≡ false → is_open t ≡ false → is_comma t ≡ false
    → AreFrames (record { len = len; frames = s.frames; openings = s.openings }) (t ∷ ts)
added_plain s ts t len a n c o m = record {
  len = let l = a.len in omega arith;
  frames = a.frames ∙ sym (frames_plain t ts c o m);
  openings = a.openings ∙ sym (openings_plain t ts o);
}

-- the first token is passed
pub passed_close : (s : Frames) (ts : List Token) (t : Token) (len : ℕ) (o : Option Frame) (fs : List Frame) → AreFrames s (t ∷ ts)
    → len ≡ s.len - 1 → is_close t ≡ true → MatchOption o ((s.frames ≡ []) × (fs ≡ [])) (λ x. s.frames ≡ x ∷ fs)
    → AreFrames (record { len = len; frames = fs; openings = s.openings }) ts
passed_close s ts t len o fs a n c h =
    let p = first_frame o s.frames fs h in
    record {
      len = let l = a.len in omega arith;
      frames = p.1 ∙ ap outside (a.frames ∙ frames_close t ts c);
      openings = a.openings ∙ openings_plain t ts (is_close_is_not_open t c);
    }

pub passed_open : (s : Frames) (ts : List Token) (t : Token) (len : ℕ) (fs : List Frame) (os : List (Option Frame)) → AreFrames s (t ∷ ts)
    → len ≡ s.len - 1 → is_open t ≡ true
    → ((others : List Frame) (rest : List (Option Frame)) → s.frames ≡ outside others → s.openings ≡ frame_at 0 others ∷ rest → (fs ≡ others) × (os ≡ rest))
    → AreFrames (record { len = len; frames = fs; openings = os }) ts
passed_open s ts t len fs os a n c h =
    let p = h (frames_of ts) (openings_of ts) (a.frames ∙ frames_open t ts c) (a.openings ∙ openings_open t ts c) in
    record {
      len = let l = a.len in omega arith;
      frames = p.0;
      openings = p.1;
    }

pub passed_comma : (s : Frames) (ts : List Token) (t : Token) (len : ℕ) (fs : List Frame) → AreFrames s (t ∷ ts)
    → len ≡ s.len - 1 → is_close t ≡ false → is_open t ≡ false → is_comma t ≡ true
    → ((n : ℕ) (others : List Frame) → s.frames ≡ with_comma n others → fs ≡ others)
    → AreFrames (record { len = len; frames = fs; openings = s.openings }) ts
passed_comma s ts t len fs a n c o m h = record {
  len = let l = a.len in omega arith;
  frames = h (length ts) (frames_of ts) (a.frames ∙ frames_comma t ts c o m);
  openings = a.openings ∙ openings_plain t ts o;
}

pub passed_plain : (s : Frames) (ts : List Token) (t : Token) (len : ℕ) → AreFrames s (t ∷ ts)
    → len ≡ s.len - 1 → is_close t ≡ false → is_open t ≡ false → is_comma t ≡ false
    → AreFrames (record { len = len; frames = s.frames; openings = s.openings }) ts
passed_plain s ts t len a n c o m = record {
  len = let l = a.len in omega arith;
  frames = a.frames ∙ frames_plain t ts c o m;
  openings = a.openings ∙ openings_plain t ts o;
}

-- how many tokens are left
pub inner_length : (x : Inner) (ts end : List Token) → IsInner x ts end → x.left - x.behind - 1 ≡ length ts
inner_length x ts end i = let l = i.left in let b = i.behind in let s = length-append ts end in omega (arith, l, b, s)

-- what is cut where no comma is left
pub inner_last : (x : Inner) (ts end : List Token) (n : ℕ) → IsInner x ts end → reverse x.commas.now ≡ [] → n ≡ length ts
    → (front : List Token) × (after : Option (List Token)) × (cut_at_comma 0 ts ≡ record { front = front; after = after }) × (n ≡ length front) × (after ≡ None)
inner_last x ts [] n i c e = absurd (let b = i.behind in omega (arith, b))
inner_last x ts (closing ∷ behind) n i c e =
    let none : (cut_at_comma 0 ts).after ≡ None = subst (λ p. CommasCut p (cut_at_comma 0 ts).after (closing ∷ behind)) c i.commas in
    let counts : length (ts ++ closing ∷ behind) ≡ length (cut_at_comma 0 ts).front + (1 + length behind) =
    cut_counts ts closing behind ∙ ap (λ a. length (cut_at_comma 0 ts).front + (1 + length (left_behind a closing behind))) none in
    let sum = length-append ts (closing ∷ behind) in (
      (cut_at_comma 0 ts).front,
      None,
      ap (λ a. record { front = (cut_at_comma 0 ts).front; after = a }) none,
      omega (arith, counts, sum, e),
      refl,
    )

-- what is cut at the first comma
pub inner_next : (x y : Inner) (ts end : List Token) (n comma : ℕ) → IsInner x ts end → reverse x.commas.now ≡ comma ∷ reverse y.commas.now → y.left ≡ comma
    → y.behind ≡ x.behind → n ≡ x.left - comma - 1
    → (front : List Token) × (after : Option (List Token)) × (cut_at_comma 0 ts ≡ record { front = front; after = after }) × (n ≡ length front)
    × IsAfter (Some y) after end
inner_next x y ts [] n comma i c l b e = absurd (let h = i.behind in omega (arith, h))
inner_next x y ts (closing ∷ behind) n comma i c l b e =
    let end = closing ∷ behind in
    let p : CommasCut (comma ∷ reverse y.commas.now) (cut_at_comma 0 ts).after (closing ∷ behind) =
    subst (λ p. CommasCut p (cut_at_comma 0 ts).after (closing ∷ behind)) c i.commas in
    let counts : length (ts ++ closing ∷ behind) ≡ length (cut_at_comma 0 ts).front + (1 + length (p.0 ++ closing ∷ behind)) =
    cut_counts ts closing behind ∙ ap (λ a. length (cut_at_comma 0 ts).front + (1 + length (left_behind a closing behind))) p.1 in
    let left = i.left in
    let place = p.2 in (
      (cut_at_comma 0 ts).front,
      Some p.0,
      ap (λ a. record { front = (cut_at_comma 0 ts).front; after = a }) p.1,
      omega (arith, counts, left, place, e),
      (p.0, refl, record { left = l ∙ place; behind = i.behind ∙ ap (λ k. k + 1) (sym b); commas = p.3 }),
    )

-- what stands between brackets, where so many tokens are ahead
TakeIs : ℕ → Option Bracketed → Option Bracketed → Type 0
TakeIs k None r = r ≡ None
TakeIs k (Some b) r =
    (length b.inner < k → (after : List Token) × (r ≡ Some (record { inner = b.inner; closing = b.closing; after = after })))
    × (k ≤ length b.inner → r ≡ None)

take_more : (k : ℕ) (t : Token) (o r : Option Bracketed) → TakeIs k o r → TakeIs (suc k) (with_inner t o) (with_inner t r)
unfolding TakeIs
take_more k t None r h = ap (with_inner t) h
take_more k t (Some b) r h = (
  λ l. let q = h.0 (omega (arith, l)) in (q.0, ap (with_inner t) q.1),
  λ l. ap (with_inner t) (h.1 (omega (arith, l))),
)

take_none : (o : Option Bracketed) → TakeIs 0 o None
unfolding TakeIs
take_none None = refl
take_none (Some b) = (λ l. absurd (omega (arith, l)), λ l. refl)

take_is : (k d : ℕ) (ts : List Token) → TakeIs k (bracketed d ts) (bracketed d (take k ts))
unfolding TakeIs bracketed
take_is zero d [] = refl
take_is zero d (t ∷ ts) = take_none (bracketed d (t ∷ ts))
take_is (suc k) d [] = refl
take_is (suc k) zero (t ∷ ts) = at (is_close t) (is_open t) (λ n. take_is k n ts)
  where
    at : (c o : Bool) → ((n : ℕ) → TakeIs k (bracketed n ts) (bracketed n (take k ts)))
        → TakeIs (suc k) (cond c (Some (record { inner = []; closing = t; after = ts })) (with_inner t (bracketed (cond o 1 0) ts)))
        (cond c (Some (record { inner = []; closing = t; after = take k ts })) (with_inner t (bracketed (cond o 1 0) (take k ts))))
    at true o next = (λ l. (take k ts, refl), λ l. absurd (omega (arith, l)))
    at false o next = take_more k t (bracketed (cond o 1 0) ts) (bracketed (cond o 1 0) (take k ts)) (next (cond o 1 0))
take_is (suc k) (suc d) (t ∷ ts) =
    take_more k t (bracketed (cond (is_close t) d (cond (is_open t) (suc (suc d)) (suc d))) ts)
    (bracketed (cond (is_close t) d (cond (is_open t) (suc (suc d)) (suc d))) (take k ts))
    (take_is k (cond (is_close t) d (cond (is_open t) (suc (suc d)) (suc d))) ts)

pub within_all : (ts : List Token) (b : Bracketed) → bracketed 0 ts ≡ Some b
    → (after : List Token) × (bracketed 0 (ahead_of [] ts) ≡ Some (record { inner = b.inner; closing = b.closing; after = after }))
within_all ts b e = (b.after, e)

pub within_first : (s : Segment) (ss : List Segment) (ts : List Token) (b : Bracketed) → bracketed 0 ts ≡ Some b → length b.inner < s.tokens
    → (after : List Token) × (bracketed 0 (ahead_of (s ∷ ss) ts) ≡ Some (record { inner = b.inner; closing = b.closing; after = after }))
unfolding TakeIs
within_first s ss ts b e l = let h : TakeIs s.tokens (Some b) (bracketed 0 (take s.tokens ts)) = subst (λ o. TakeIs s.tokens o (bracketed 0 (take s.tokens ts))) e (take_is s.tokens 0 ts) in h.0 l

pub beyond_first : (s : Segment) (ss : List Segment) (ts : List Token) (b : Bracketed) → bracketed 0 ts ≡ Some b → s.tokens ≤ length b.inner
    → bracketed 0 (ahead_of (s ∷ ss) ts) ≡ None
unfolding TakeIs
beyond_first s ss ts b e l = let h : TakeIs s.tokens (Some b) (bracketed 0 (take s.tokens ts)) = subst (λ o. TakeIs s.tokens o (bracketed 0 (take s.tokens ts))) e (take_is s.tokens 0 ts) in h.1 l

pub unclosed_first : (ss : List Segment) (ts : List Token) → bracketed 0 ts ≡ None → bracketed 0 (ahead_of ss ts) ≡ None
unfolding TakeIs
unclosed_first [] ts e = e
unclosed_first (s ∷ ss) ts e = subst (λ o. TakeIs s.tokens o (bracketed 0 (take s.tokens ts))) e (take_is s.tokens 0 ts)

-- the first frame is that of the brackets that were begun
pub no_frame : (f : Frames) (ts : List Token) → AreFrames f ts → f.frames ≡ [] → bracketed 0 ts ≡ None
unfolding FrameIs
no_frame f ts a e = at (bracketed 0 ts) (subst (λ fs. FrameIs 0 (bracketed 0 ts) (frame_at 0 fs)) (sym a.frames ∙ e) (frame_is 0 ts))
  where
    at : (r : Option Bracketed) → FrameIs 0 r None → r ≡ None
    at None h = refl
    at (Some b) h = absurd h

pub one_frame : (f : Frames) (ts : List Token) (x : Frame) (rest : List Frame) → AreFrames f ts → f.frames ≡ x ∷ rest
    → (b : Bracketed) × (bracketed 0 ts ≡ Some b) × IsFrame 0 b x
unfolding FrameIs
one_frame f ts x rest a e = at (bracketed 0 ts) refl (subst (λ fs. FrameIs 0 (bracketed 0 ts) (frame_at 0 fs)) (sym a.frames ∙ e) (frame_is 0 ts))
  where
    at : (r : Option Bracketed) → bracketed 0 ts ≡ r → FrameIs 0 r (Some x) → (b : Bracketed) × (bracketed 0 ts ≡ Some b) × IsFrame 0 b x
    at None g h = absurd h
    at (Some b) g h = (b, g, h)

pub frame_inner : (f : Frames) (ts : List Token) (x : Frame) (b : Bracketed) → AreFrames f ts → bracketed 0 ts ≡ Some b → IsFrame 0 b x
    → f.len - x.behind - 1 ≡ length b.inner
frame_inner f ts x b a e i =
    let l = a.len in
    let h = i.behind in
    let w = ap length (bracketed_whole_at 0 ts b e) ∙ length-append b.inner (b.closing ∷ b.after) in
    omega (arith, l, h, w)
