-- What counting finds are the brackets and the arguments of an invocation.
use Rattle.std.proofs.Common.{◌≡◌, ℕ, zero, suc, ◌+◌, ◌-◌, ◌<◌, List, [], ◌∷◌, ◌++◌, Bool, true, false, cond, ◌&&◌, ◌==◌, Option, Some, None, refl, sym, ◌∙◌, ap, subst, arith, length, length-append}
use Rattle.std.proofs.lemmas.List.{append_assoc, append-nil}
use Rattle.std.proofs.lemmas.Bool.Decides.{nat_tests}
use Rattle.cx_tokens.specs.declared.token.Token.{Token}
use Rattle.cx_macro.specs.Arguments.{AreArguments, AreJoined, Arguments, Bracketed, IsArgument, IsBracketed, IsRoundNested, argument_brackets, argument_ends, argument_token, each_given, is_close, is_comma, is_open, last_argument, more_arguments, nested_brackets, nested_ends, nested_token, no_argument, no_arguments, variable_alone, variable_given, variable_left_out}
use Rattle.cx_macro.specs.Shapes.Calls.{behind_front, behind_inner, deeper}
use Rattle.cx_macro.specs.Shapes.Counting.{Cut, Named, arguments_of, bracketed, cut_at_comma, named_arguments, with_argument, with_inner, with_variable}
use Rattle.cx_macro.proofs.CallLaws.{behind_inner-nil, bracketed_close, bracketed_goes, cut_comma, cut_end, cut_goes, is_close_is_not_open, is_open_is_not_close, is_open_is_not_comma, named_suc}

-- nested tokens, with so many closing brackets between
Closes : ℕ → List Token → Type 0
Closes zero ts = IsRoundNested ts
Closes (suc d) ts = (a : List Token) × (c : Token) × (b : List Token) × (ts ≡ a ++ c ∷ b) × IsRoundNested a × (is_close c ≡ true) × Closes d b

closes_token : (d : ℕ) (t : Token) (ts : List Token) → is_open t ≡ false → is_close t ≡ false → Closes d ts → Closes d (t ∷ ts)
unfolding Closes
closes_token zero t ts o c h = nested_token o c h
closes_token (suc d) t ts o c h = (t ∷ h.0, h.1, h.2, ap (λ x. t ∷ x) h.3, nested_token o c h.4, h.5, h.6)

closes_close : (d : ℕ) (t : Token) (ts : List Token) → is_close t ≡ true → Closes d ts → Closes (suc d) (t ∷ ts)
unfolding Closes
closes_close d t ts c h = ([], t, ts, refl, nested_ends, c, h)

closes_open : (d : ℕ) (t : Token) (ts : List Token) → is_open t ≡ true → Closes (suc d) ts → Closes d (t ∷ ts)
unfolding Closes
closes_open zero t ts o h = subst (λ x. IsRoundNested (t ∷ x)) (sym h.3) (nested_brackets h.1 o h.4 h.5 h.6)
closes_open (suc d) t ts o h =
    let k = h.6 in (
      t ∷ (h.0 ++ h.1 ∷ k.0),
      k.1,
      k.2,
      ap (λ x. t ∷ x) (h.3 ∙ (ap (λ x. h.0 ++ h.1 ∷ x) k.3 ∙ sym (append_assoc h.0 (h.1 ∷ k.0) (k.1 ∷ k.2)))),
      nested_brackets h.1 o h.4 h.5 k.4,
      k.5,
      k.6,
    )

FoundBy : ℕ → List Token → Option Bracketed → Type 0
FoundBy d ts None = Unit {0}
FoundBy d ts (Some b) = Closes d b.inner × (ts ≡ b.inner ++ b.closing ∷ b.after) × (is_close b.closing ≡ true)

found_more : (d e : ℕ) (t : Token) (ts : List Token) (r : Option Bracketed) → ((inner : List Token) → Closes e inner → Closes d (t ∷ inner)) → FoundBy e ts r
    → FoundBy d (t ∷ ts) (with_inner t r)
unfolding FoundBy
found_more d e t ts None f h = tt
found_more d e t ts (Some b) f h = (f b.inner h.0, ap (λ x. t ∷ x) h.1, h.2)

found_by : (d : ℕ) (ts : List Token) → FoundBy d ts (bracketed d ts)
unfolding FoundBy bracketed Closes
found_by d [] = tt
found_by zero (t ∷ ts) = at (is_close t) (is_open t) refl refl (λ n. found_by n ts)
  where
    at : (close opened : Bool) → is_close t ≡ close → is_open t ≡ opened → ((n : ℕ) → FoundBy n ts (bracketed n ts))
        → FoundBy zero (t ∷ ts) (cond close (Some (record { inner = []; closing = t; after = ts })) (with_inner t (bracketed (cond opened 1 0) ts)))
    at true opened c o next = (nested_ends, refl, c)
    at false true c o next = found_more 0 1 t ts (bracketed 1 ts) (λ inner k. closes_open 0 t inner o k) (next 1)
    at false false c o next = found_more 0 0 t ts (bracketed 0 ts) (λ inner k. closes_token 0 t inner o c k) (next 0)
found_by (suc d) (t ∷ ts) = at (is_close t) (is_open t) refl refl (λ n. found_by n ts)
  where
    at : (close opened : Bool) → is_close t ≡ close → is_open t ≡ opened → ((n : ℕ) → FoundBy n ts (bracketed n ts))
        → FoundBy (suc d) (t ∷ ts) (with_inner t (bracketed (cond close d (cond opened (suc (suc d)) (suc d))) ts))
    at true opened c o next = found_more (suc d) d t ts (bracketed d ts) (λ inner k. closes_close d t inner c k) (next d)
    at false true c o next = found_more (suc d) (suc (suc d)) t ts (bracketed (suc (suc d)) ts) (λ inner k. closes_open (suc d) t inner o k) (next (suc (suc d)))
    at false false c o next = found_more (suc d) (suc d) t ts (bracketed (suc d) ts) (λ inner k. closes_token (suc d) t inner o c k) (next (suc d))

pub bracketed_only : (ts : List Token) (b : Bracketed) → bracketed 0 ts ≡ Some b → IsBracketed ts b
unfolding FoundBy Closes
bracketed_only ts b e =
    let f : FoundBy 0 ts (Some b) = subst (FoundBy 0 ts) e (found_by 0 ts) in
    record { whole = f.1; nested = f.0; closes = f.2 }

-- how many brackets are open after a token
pub deeper_open : (d : ℕ) (t : Token) → is_open t ≡ true → deeper d t ≡ suc d
unfolding deeper
deeper_open d t o = ap (λ b. cond b (d + 1) (cond (is_close t) (d - 1) d)) o ∙ omega arith

pub deeper_close : (d : ℕ) (t : Token) → is_close t ≡ true → deeper (suc d) t ≡ d
unfolding deeper
deeper_close d t c =
    ap (λ b. cond b (suc d + 1) (cond (is_close t) (suc d - 1) (suc d))) (is_close_is_not_open t c)
    ∙ (ap (λ b. cond b (suc d - 1) (suc d)) c ∙ omega arith)

pub deeper_plain : (d : ℕ) (t : Token) → is_open t ≡ false → is_close t ≡ false → deeper d t ≡ d
unfolding deeper
deeper_plain d t o c = ap (λ b. cond b (d + 1) (cond (is_close t) (d - 1) d)) o ∙ ap (λ b. cond b (d - 1) d) c

pub within_depth : (d : ℕ) (b : Bool) → ((suc d == 0) && b) ≡ false
within_depth d b = ap (λ x. x && b) (no_zero d)
  where
    no_zero : (d : ℕ) → (suc d == 0) ≡ false
    no_zero d = grind (arith, nat_tests)

pub at_depth : (d : ℕ) (b : Bool) → b ≡ false → ((d == 0) && b) ≡ false
at_depth d b e = at (d == 0) b e
  where
    at : (a b : Bool) → b ≡ false → (a && b) ≡ false
    at true b e = e
    at false b e = refl

-- what goes over tokens, with those passed and how many brackets are open, until one stops it outside of brackets
module _ (X : Type 0) (walk : List Token → ℕ → List Token → X) (stop : Token → Bool)
    (go : (front : List Token) (d : ℕ) (t : Token) (ts : List Token) → ((d == 0) && stop t) ≡ false → walk front d (t ∷ ts) ≡ walk (front ++ t ∷ []) (deeper d t) ts) where
  passes_plain : (front : List Token) (d : ℕ) (t : Token) (ts : List Token) → is_open t ≡ false → is_close t ≡ false → ((d == 0) && stop t) ≡ false
      → walk front d (t ∷ ts) ≡ walk (front ++ t ∷ []) d ts
  passes_plain front d t ts o c e = go front d t ts e ∙ ap (λ n. walk (front ++ t ∷ []) n ts) (deeper_plain d t o c)

  -- the tokens between brackets are passed: so are the brackets
  passes_brackets : (front : List Token) (d : ℕ) (opening closing : Token) (inner ts rest : List Token) → is_open opening ≡ true → is_close closing ≡ true
      → ((d == 0) && stop opening) ≡ false
      → ((front rest : List Token) → walk front (suc d) (inner ++ rest) ≡ walk (front ++ inner) (suc d) rest)
      → ((front : List Token) → walk front d (ts ++ rest) ≡ walk (front ++ ts) d rest)
      → walk front d ((opening ∷ (inner ++ closing ∷ ts)) ++ rest) ≡ walk (front ++ (opening ∷ (inner ++ closing ∷ ts))) d rest
  passes_brackets front d opening closing inner ts rest o c e h k =
      go front d opening ((inner ++ closing ∷ ts) ++ rest) e
      ∙ (ap (λ n. walk (front ++ opening ∷ []) n ((inner ++ closing ∷ ts) ++ rest)) (deeper_open d opening o)
      ∙ (ap (walk (front ++ opening ∷ []) (suc d)) (append_assoc inner (closing ∷ ts) rest)
      ∙ (h (front ++ opening ∷ []) (closing ∷ (ts ++ rest))
      ∙ (go ((front ++ opening ∷ []) ++ inner) (suc d) closing (ts ++ rest) (within_depth d (stop closing))
      ∙ (ap (λ n. walk (((front ++ opening ∷ []) ++ inner) ++ closing ∷ []) n (ts ++ rest)) (deeper_close d closing c)
      ∙ (k (((front ++ opening ∷ []) ++ inner) ++ closing ∷ [])
      ∙ ap (λ x. walk x d rest) (regroup front inner ts opening closing)))))))
    where
      regroup : (front inner ts : List Token) (opening closing : Token)
          → (((front ++ opening ∷ []) ++ inner) ++ closing ∷ []) ++ ts ≡ front ++ (opening ∷ (inner ++ closing ∷ ts))
      regroup front inner ts opening closing = simp append_assoc

  passes_within : {a : List Token} → IsRoundNested a → (d : ℕ) (front rest : List Token) → walk front (suc d) (a ++ rest) ≡ walk (front ++ a) (suc d) rest
  passes_within nested_ends d front rest = ap (λ x. walk x (suc d) rest) (sym (append-nil front))
  passes_within (nested_token {t = t} {ts = ts} o c h) d front rest =
      passes_plain front (suc d) t (ts ++ rest) o c (within_depth d (stop t))
      ∙ (passes_within h d (front ++ t ∷ []) rest ∙ ap (λ x. walk x (suc d) rest) (append_assoc front (t ∷ []) ts))
  passes_within (nested_brackets {opening = opening} {inner = inner} {ts = ts} closing o h c k) d front rest =
      passes_brackets front (suc d) opening closing inner ts rest o c (within_depth d (stop opening)) (λ f r. passes_within h (suc d) f r)
      (λ f. passes_within k d f rest)

bracket_walk : List Token → ℕ → List Token → Option Bracketed
bracket_walk front d ts = behind_inner front (bracketed d ts)

passes_nested : {a : List Token} → IsRoundNested a → (front rest : List Token)
    → behind_inner front (bracketed 0 (a ++ rest)) ≡ behind_inner (front ++ a) (bracketed 0 rest)
unfolding bracket_walk
passes_nested nested_ends front rest = ap (λ x. behind_inner x (bracketed 0 rest)) (sym (append-nil front))
passes_nested (nested_token {t = t} {ts = ts} o c h) front rest =
    passes_plain (Option Bracketed) bracket_walk is_close bracketed_goes front 0 t (ts ++ rest) o c (at_depth 0 (is_close t) c)
    ∙ (passes_nested h (front ++ t ∷ []) rest ∙ ap (λ x. behind_inner x (bracketed 0 rest)) (append_assoc front (t ∷ []) ts))
passes_nested (nested_brackets {opening = opening} {inner = inner} {ts = ts} closing o h c k) front rest =
    passes_brackets (Option Bracketed) bracket_walk is_close bracketed_goes front 0 opening closing inner ts rest o c
    (at_depth 0 (is_close opening) (is_open_is_not_close opening o)) (λ f r. passes_within (Option Bracketed) bracket_walk is_close bracketed_goes h 0 f r)
    (λ f. passes_nested k f rest)

pub bracketed_if : (ts : List Token) (b : Bracketed) → IsBracketed ts b → bracketed 0 ts ≡ Some b
bracketed_if ts b h =
    ap (bracketed 0) h.whole
    ∙ (sym (behind_inner-nil (bracketed 0 (b.inner ++ b.closing ∷ b.after)))
    ∙ (passes_nested h.nested [] (b.closing ∷ b.after) ∙ bracketed_close b.inner 0 b.closing b.after refl h.closes))

-- the first of arguments
cut_walk : List Token → ℕ → List Token → Cut
cut_walk front d ts = behind_front front (cut_at_comma d ts)

passes_argument : {a : List Token} → IsArgument a → (front rest : List Token)
    → behind_front front (cut_at_comma 0 (a ++ rest)) ≡ behind_front (front ++ a) (cut_at_comma 0 rest)
unfolding cut_walk
passes_argument argument_ends front rest = ap (λ x. behind_front x (cut_at_comma 0 rest)) (sym (append-nil front))
passes_argument (argument_token {t = t} {ts = ts} o c m h) front rest =
    passes_plain Cut cut_walk is_comma cut_goes front 0 t (ts ++ rest) o c (at_depth 0 (is_comma t) m)
    ∙ (passes_argument h (front ++ t ∷ []) rest ∙ ap (λ x. behind_front x (cut_at_comma 0 rest)) (append_assoc front (t ∷ []) ts))
passes_argument (argument_brackets {opening = opening} {inner = inner} {ts = ts} closing o h c k) front rest =
    passes_brackets Cut cut_walk is_comma cut_goes front 0 opening closing inner ts rest o c
    (at_depth 0 (is_comma opening) (is_open_is_not_comma opening o)) (λ f r. passes_within Cut cut_walk is_comma cut_goes h 0 f r)
    (λ f. passes_argument k f rest)

cut_only : {a : List Token} → IsArgument a → cut_at_comma 0 a ≡ record { front = a; after = None }
cut_only {a} h = ap (cut_at_comma 0) (sym (append-nil a)) ∙ (passes_argument h [] [] ∙ cut_end a 0)

cut_and_more : {a : List Token} (comma : Token) (rest : List Token) → IsArgument a → is_comma comma ≡ true
    → cut_at_comma 0 (a ++ comma ∷ rest) ≡ record { front = a; after = Some rest }
cut_and_more {a} comma rest h m = passes_argument h [] (comma ∷ rest) ∙ cut_comma a 0 comma rest refl m

data First (ts : List Token) : Type 0 where
  only_argument : IsArgument ts → First ts
  argument_and_more : (a rest : List Token) (comma : Token) → ts ≡ a ++ comma ∷ rest → IsArgument a → is_comma comma ≡ true → IsRoundNested rest → First ts

first : {ts : List Token} → IsRoundNested ts → First ts
first nested_ends = only_argument argument_ends
first (nested_token {t = t} {ts = ts} o c h) = at (is_comma t) refl (first h)
  where
    at : (b : Bool) → is_comma t ≡ b → First ts → First (t ∷ ts)
    at true e f = argument_and_more [] ts t refl argument_ends e h
    at false e (only_argument g) = only_argument (argument_token o c e g)
    at false e (argument_and_more a rest comma w g m n) = argument_and_more (t ∷ a) rest comma (ap (λ x. t ∷ x) w) (argument_token o c e g) m n
first (nested_brackets {opening = opening} {inner = inner} {ts = ts} closing o h c k) = at (first k)
  where
    at : First ts → First (opening ∷ (inner ++ closing ∷ ts))
    at (only_argument g) = only_argument (argument_brackets closing o h c g)
    at (argument_and_more a rest comma w g m n) =
        argument_and_more (opening ∷ (inner ++ closing ∷ a)) rest comma
        (ap (λ x. opening ∷ (inner ++ closing ∷ x)) w ∙ ap (λ x. opening ∷ x) (sym (append_assoc inner (closing ∷ a) (comma ∷ rest))))
        (argument_brackets closing o h c g) m n

-- what the named parameters are given
named_all : {given : List (List Token)} {ts : List Token} → AreJoined given ts → 0 < length given
    → named_arguments (length given) (Some ts) ≡ Some (record { arguments = given; after = None })
unfolding named_arguments
named_all no_argument l = absurd (omega arith)
named_all (last_argument {a = a} h) l = named_suc 0 a ∙ ap (λ (c : Cut). with_argument c.front (named_arguments 0 c.after)) (cut_only h)
named_all (more_arguments {a = a} {b = b} {ts = ts} {more = more} comma h m j) l =
    named_suc (length (b ∷ more)) (a ++ comma ∷ ts)
    ∙ (ap (λ (c : Cut). with_argument c.front (named_arguments (length (b ∷ more)) c.after)) (cut_and_more comma ts h m)
    ∙ ap (with_argument a) (named_all j (omega arith)))

named_first : {given : List (List Token)} {ts : List Token} → AreJoined given ts → 0 < length given → (comma : Token) (rest : List Token) → is_comma comma ≡ true
    → named_arguments (length given) (Some (ts ++ comma ∷ rest)) ≡ Some (record { arguments = given; after = Some rest })
unfolding named_arguments
named_first no_argument l comma rest e = absurd (omega arith)
named_first (last_argument {a = a} h) l comma rest e =
    named_suc 0 (a ++ comma ∷ rest) ∙ ap (λ (c : Cut). with_argument c.front (named_arguments 0 c.after)) (cut_and_more comma rest h e)
named_first (more_arguments {a = a} {b = b} {ts = ts} {more = more} mid h m j) l comma rest e =
    ap (λ x. named_arguments (length (a ∷ b ∷ more)) (Some x)) (append_assoc a (mid ∷ ts) (comma ∷ rest))
    ∙ (named_suc (length (b ∷ more)) (a ++ mid ∷ (ts ++ comma ∷ rest))
    ∙ (ap (λ (c : Cut). with_argument c.front (named_arguments (length (b ∷ more)) c.after)) (cut_and_more mid (ts ++ comma ∷ rest) h m)
    ∙ ap (with_argument a) (named_first j (omega arith) comma rest e)))

-- what counting gives to so many parameters and one more
data NamedIs (n : ℕ) (ts : List Token) : Option Named → Type 0 where
  few : NamedIs n ts None
  exact : (given : List (List Token)) → AreJoined given ts → length given ≡ suc n → NamedIs n ts (Some (record { arguments = given; after = None }))
  and_more : (given : List (List Token)) (front : List Token) (comma : Token) (rest : List Token) → ts ≡ front ++ comma ∷ rest → AreJoined given front
      → length given ≡ suc n → is_comma comma ≡ true → IsRoundNested rest → NamedIs n ts (Some (record { arguments = given; after = Some rest }))

joined_more : (a ts : List Token) (given : List (List Token)) (comma : Token) (n : ℕ) → IsArgument a → is_comma comma ≡ true → AreJoined given ts → length given ≡ suc n
    → AreJoined (a ∷ given) (a ++ comma ∷ ts)
joined_more a ts [] comma n h m j l = absurd (omega arith)
joined_more a ts (b ∷ given) comma n h m j l = more_arguments comma h m j

by_cut : (n : ℕ) (ts : List Token) (c : Cut) → cut_at_comma 0 ts ≡ c → NamedIs n ts (with_argument c.front (named_arguments n c.after))
    → NamedIs n ts (named_arguments (suc n) (Some ts))
by_cut n ts c e k =
    subst (NamedIs n ts) (sym (named_suc n ts)) (subst (λ (x : Cut). NamedIs n ts (with_argument x.front (named_arguments n x.after))) (sym e) k)

named_whole : (n : ℕ) (ts : List Token) → IsArgument ts → NamedIs n ts (with_argument ts (named_arguments n None))
unfolding named_arguments
named_whole zero ts g = exact (ts ∷ []) (last_argument g) refl
named_whole (suc n) ts g = few

named_next : (n : ℕ) (ts a rest : List Token) (comma : Token) → ts ≡ a ++ comma ∷ rest → IsArgument a → is_comma comma ≡ true
    → (r : Option Named) → NamedIs n rest r → NamedIs (suc n) ts (with_argument a r)
named_next n ts a rest comma w g m None few = few
named_next n ts a rest comma w g m _ (exact given j l) =
    exact (a ∷ given) (subst (AreJoined (a ∷ given)) (sym w) (joined_more a rest given comma n g m j l)) (ap (λ x. suc x) l)
named_next n ts a rest comma w g m _ (and_more given front comma' rest' w' j l m' k') =
    and_more (a ∷ given) (a ++ comma ∷ front) comma' rest' (w ∙ (ap (λ x. a ++ comma ∷ x) w' ∙ sym (append_assoc a (comma ∷ front) (comma' ∷ rest'))))
    (joined_more a front given comma n g m j l) (ap (λ x. suc x) l) m' k'

-- what counting gives to one parameter more, where the first argument is this
named_at : (n : ℕ) (ts : List Token) → ((a rest : List Token) (comma : Token) → ts ≡ a ++ comma ∷ rest → IsArgument a → is_comma comma ≡ true → IsRoundNested rest
    → NamedIs n ts (with_argument a (named_arguments n (Some rest)))) → First ts → NamedIs n ts (named_arguments (suc n) (Some ts))
named_at n ts step (only_argument g) = by_cut n ts (record { front = ts; after = None }) (cut_only g) (named_whole n ts g)
named_at n ts step (argument_and_more a rest comma w g m k) =
    by_cut n ts (record { front = a; after = Some rest }) (ap (cut_at_comma 0) w ∙ cut_and_more comma rest g m) (step a rest comma w g m k)

named_is : (n : ℕ) (ts : List Token) → IsRoundNested ts → NamedIs n ts (named_arguments (suc n) (Some ts))
unfolding named_arguments
named_is zero ts h = named_at zero ts (λ a rest comma w g m k. and_more (a ∷ []) a comma rest w (last_argument g) refl m k) (first h)
named_is (suc n) ts h =
    named_at (suc n) ts (λ a rest comma w g m k. named_next n ts a rest comma w g m (named_arguments (suc n) (Some rest)) (named_is n rest k)) (first h)

by_named : (n : ℕ) (variadic : Bool) (inner : List Token) → arguments_of (suc n) variadic inner ≡ with_variable variadic false (named_arguments (suc n) (Some inner))
unfolding arguments_of
by_named n variadic inner = refl

each_if : {given : List (List Token)} {inner : List Token} → AreJoined given inner → arguments_of (length given) false inner ≡ Some (record { given = given; left_out = false })
unfolding arguments_of
each_if no_argument = refl
each_if (last_argument {a = a} h) = by_named 0 false a ∙ ap (with_variable false false) (named_all (last_argument h) (omega arith))
each_if (more_arguments {a = a} {b = b} {ts = ts} {more = more} comma h m j) =
    by_named (length (b ∷ more)) false (a ++ comma ∷ ts) ∙ ap (with_variable false false) (named_all (more_arguments comma h m j) (omega arith))

left_out_if : {given : List (List Token)} {inner : List Token} → AreJoined given inner
    → arguments_of (length given) true inner ≡ Some (record { given = given ++ [] ∷ []; left_out = true })
unfolding arguments_of named_arguments
left_out_if no_argument = refl
left_out_if (last_argument {a = a} h) = by_named 0 true a ∙ ap (with_variable true false) (named_all (last_argument h) (omega arith))
left_out_if (more_arguments {a = a} {b = b} {ts = ts} {more = more} comma h m j) =
    by_named (length (b ∷ more)) true (a ++ comma ∷ ts) ∙ ap (with_variable true false) (named_all (more_arguments comma h m j) (omega arith))

given_if : (given : List (List Token)) (front variable : List Token) (comma : Token) → AreJoined given front → 0 < length given → is_comma comma ≡ true
    → arguments_of (length given) true (front ++ comma ∷ variable) ≡ Some (record { given = given ++ variable ∷ []; left_out = false })
given_if [] front variable comma j l m = absurd (omega arith)
given_if (g ∷ given) front variable comma j l m =
    by_named (length given) true (front ++ comma ∷ variable) ∙ ap (with_variable true false) (named_first j l comma variable m)

alone_if : (inner : List Token) → 0 < length inner → arguments_of 0 true inner ≡ Some (record { given = inner ∷ []; left_out = false })
unfolding arguments_of named_arguments
alone_if [] l = absurd (omega arith)
alone_if (t ∷ ts) l = refl

pub arguments_if : {n : ℕ} {variadic : Bool} {inner : List Token} {x : Arguments} → AreArguments n variadic inner x → arguments_of n variadic inner ≡ Some x
arguments_if {inner = inner} (each_given {given = given} j l) =
    subst (λ k. arguments_of k false inner ≡ Some (record { given = given; left_out = false })) l (each_if j)
arguments_if {inner = inner} (variable_left_out {given = given} j l) =
    subst (λ k. arguments_of k true inner ≡ Some (record { given = given ++ [] ∷ []; left_out = true })) l (left_out_if j)
arguments_if {n} {inner = inner} (variable_given {front = front} {variable = variable} {given = given} comma w j l some m k) =
    ap (arguments_of n true) w ∙ subst (λ k. arguments_of k true (front ++ comma ∷ variable) ≡ Some (record { given = given ++ variable ∷ []; left_out = false })) l
    (given_if given front variable comma j (omega (arith, l, some)) m)
arguments_if {inner = inner} (variable_alone h l e) =
    subst (λ k. arguments_of k true inner ≡ Some (record { given = inner ∷ []; left_out = false })) (sym e) (alone_if inner l)

same_some : {X : Type 0} (x y : X) → Some x ≡ Some y → x ≡ y
same_some x y e = cc

pub arguments_only : (n : ℕ) (variadic : Bool) (inner : List Token) (x : Arguments) → IsRoundNested inner → arguments_of n variadic inner ≡ Some x
    → AreArguments n variadic inner x
unfolding arguments_of named_arguments
arguments_only zero false [] x h e = subst (AreArguments 0 false []) (same_some no_arguments x e) (each_given no_argument refl)
arguments_only zero true [] x h e =
    subst (AreArguments 0 true []) (same_some (record { given = [] ∷ []; left_out = true }) x e) (variable_left_out no_argument refl)
arguments_only zero false (t ∷ ts) x h e = absurd cc
arguments_only zero true (t ∷ ts) x h e =
    subst (AreArguments 0 true (t ∷ ts)) (same_some (record { given = (t ∷ ts) ∷ []; left_out = false }) x e) (variable_alone h (omega arith) refl)
arguments_only (suc n) variadic inner x h e = at variadic (named_arguments (suc n) (Some inner)) (named_is n inner h) e
  where
    at : (variadic : Bool) (r : Option Named) → NamedIs n inner r → with_variable variadic false r ≡ Some x → AreArguments (suc n) variadic inner x
    at variadic None few e = absurd cc
    at false _ (exact given j l) e = subst (AreArguments (suc n) false inner) (same_some (record { given = given; left_out = false }) x e) (each_given j l)
    at true _ (exact given j l) e =
        subst (AreArguments (suc n) true inner) (same_some (record { given = given ++ [] ∷ []; left_out = true }) x e) (variable_left_out j l)
    at false _ (and_more given front comma rest w j l m k) e = absurd cc
    at true _ (and_more given front comma rest w j l m k) e =
        subst (AreArguments (suc n) true inner) (same_some (record { given = given ++ rest ∷ []; left_out = false }) x e) (variable_given comma w j l (omega arith) m k)

pub arguments_same : {n : ℕ} {variadic : Bool} {inner : List Token} {x y : Arguments} → AreArguments n variadic inner x → AreArguments n variadic inner y → x ≡ y
arguments_same {x = x} {y = y} h k = same_some x y (sym (arguments_if h) ∙ arguments_if k)

pub arguments_none : {n : ℕ} {variadic : Bool} {inner : List Token} → arguments_of n variadic inner ≡ None → (x : Arguments) → ¬ AreArguments n variadic inner x
arguments_none e x h = absurd (let f = arguments_if h in cc)

-- Nested tokens are arguments with commas between.
joined_by : (bound : ℕ) (ts : List Token) → length ts < bound → IsRoundNested ts → (given : List (List Token)) × AreJoined given ts × (0 < length given)
joined_by zero ts l h = absurd (omega (arith, l))
joined_by (suc bound) ts l h = at (first h) (λ rest l' k. joined_by bound rest l' k)
  where
    at : First ts → ((rest : List Token) → length rest < bound → IsRoundNested rest → (given : List (List Token)) × AreJoined given rest × (0 < length given))
        → (given : List (List Token)) × AreJoined given ts × (0 < length given)
    at (only_argument g) next = (ts ∷ [], last_argument g, omega arith)
    at (argument_and_more a rest comma w g m k) next =
        let size : length ts ≡ length a + length (comma ∷ rest) = ap length w ∙ length-append a (comma ∷ rest) in
        let r = next rest (omega (arith, l, size)) k in (
          a ∷ r.0,
          subst (AreJoined (a ∷ r.0)) (sym w) (put_before a rest r.0 comma g m r.1 r.2),
          omega arith,
        )
      where
        put_before : (a rest : List Token) (given : List (List Token)) (comma : Token) → IsArgument a → is_comma comma ≡ true → AreJoined given rest → 0 < length given
            → AreJoined (a ∷ given) (a ++ comma ∷ rest)
        put_before a rest [] comma g m j l = absurd (omega (arith, l))
        put_before a rest (b ∷ given) comma g m j l = more_arguments comma g m j

pub joined_some : (ts : List Token) → IsRoundNested ts → (given : List (List Token)) × AreJoined given ts × (0 < length given)
joined_some ts h = joined_by (suc (length ts)) ts (omega arith) h

pub brackets_same : (ts : List Token) (b c : Bracketed) → IsBracketed ts b → IsBracketed ts c → b ≡ c
brackets_same ts b c h k = same_brackets b c (sym (bracketed_if ts b h) ∙ bracketed_if ts c k)
  where
    same_brackets : (b c : Bracketed) → Some b ≡ Some c → b ≡ c
    same_brackets b c e = cc
