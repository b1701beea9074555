-- A list of tokens of which a front is done, and what the edits at the end of that front make of it.
use Rattle.std.proofs.Common.{◌≡◌, ℕ, Bool, true, false, cond, ◌==◌, ◌||◌, List, [], ◌∷◌, ◌++◌, map, option_map, Option, Some, None, refl, sym, ◌∙◌, ap, ap₂, subst, IfSome, ⊎_elim, append_assoc, arith}
use Rattle.std.proofs.lemmas.List.{append-nil, map-append}
use Rattle.std.proofs.lemmas.List.Elements.{All-append, All-cons, All-head, All-nil, All-tail}
use Rattle.std.specs.Option.{is_some}
use Rattle.cx_macro.specs.Partners.{HasNoPartners}
use Rattle.std.proofs.lemmas.Bool.{cases_Bool, both_ways}
use Rattle.std.proofs.lemmas.Bool.Decides.{nat_tests}
use Rattle.cx_tokens.specs.declared.token.Token.{Token}
use Rattle.cx_tokens.specs.Nodes.{IsTokenList, TokenNode, nodes_before, nodes_after, erased, first_of, inserted, is_live, live_partner, node_of, partner_in, partner_of, with_live_partners, token_of, tokens, nodes_to}
use Rattle.cx_tokens.proofs.NodeLaws.{IsNumbered, dead_parts, found, live_left, numbered_apart}
use Rattle.cx_macro.specs.Shapes.Levels.{nodes_ahead, nodes_done}

-- the last node that is done is one of the list
abbrev pub IsLast : Option ℕ → List TokenNode → Type 0
IsLast last nodes = IfSome last (λ n. is_live n nodes ≡ true)

same_number : (n : ℕ) → (n == n) ≡ true
same_number n = grind (arith, nat_tests)

-- a node of a front, with a rest behind it
up_to_front : (n : ℕ) (front rest : List TokenNode) → is_live n front ≡ true → nodes_to n (front ++ rest) ≡ nodes_to n front
unfolding nodes_to
up_to_front n [] rest l = absurd cc
up_to_front n (x ∷ xs) rest l =
    ⊎_elim
    (λ (e : (x.number == n) ≡ true). rw e refl)
    (λ (e : (x.number == n) ≡ false). rw e (ap (λ t. x ∷ t) (up_to_front n xs rest (sym (ap (λ t. t || is_live n xs) e) ∙ l))))
    (cases_Bool (x.number == n))

behind_front : (n : ℕ) (front rest : List TokenNode) → is_live n front ≡ true → nodes_after n (front ++ rest) ≡ nodes_after n front ++ rest
unfolding nodes_after
behind_front n [] rest l = absurd cc
behind_front n (x ∷ xs) rest l =
    ⊎_elim
    (λ (e : (x.number == n) ≡ true). rw e refl)
    (λ (e : (x.number == n) ≡ false). rw e (behind_front n xs rest (sym (ap (λ t. t || is_live n xs) e) ∙ l)))
    (cases_Bool (x.number == n))

up_to_live : (n : ℕ) (xs : List TokenNode) → is_live n xs ≡ true → is_live n (nodes_to n xs) ≡ true
unfolding nodes_to
up_to_live n [] l = absurd cc
up_to_live n (x ∷ xs) l =
    ⊎_elim
    (λ (e : (x.number == n) ≡ true). rw e (ap (λ t. t || false) e))
    (λ (e : (x.number == n) ≡ false). rw e (ap (λ t. t || is_live n (nodes_to n xs)) e ∙ up_to_live n xs (sym (ap (λ t. t || is_live n xs) e) ∙ l)))
    (cases_Bool (x.number == n))

up_to_twice : (n : ℕ) (xs : List TokenNode) → nodes_to n (nodes_to n xs) ≡ nodes_to n xs
unfolding nodes_to
up_to_twice n [] = refl
up_to_twice n (x ∷ xs) =
    ⊎_elim
    (λ (e : (x.number == n) ≡ true). rw e (rw e refl))
    (λ (e : (x.number == n) ≡ false). rw e (rw e (ap (λ t. x ∷ t) (up_to_twice n xs))))
    (cases_Bool (x.number == n))

behind_up_to : (n : ℕ) (xs : List TokenNode) → nodes_after n (nodes_to n xs) ≡ []
unfolding nodes_to nodes_after
behind_up_to n [] = refl
behind_up_to n (x ∷ xs) =
    ⊎_elim
    (λ (e : (x.number == n) ≡ true). rw e (rw e refl))
    (λ (e : (x.number == n) ≡ false). rw e (rw e (behind_up_to n xs)))
    (cases_Bool (x.number == n))

-- the node with a number that stands behind a front
up_to_at : (front rest : List TokenNode) (x : TokenNode) → is_live x.number front ≡ false → nodes_to x.number (front ++ x ∷ rest) ≡ front ++ x ∷ []
unfolding nodes_to
up_to_at [] rest x l = ap (λ b. cond b (x ∷ []) (x ∷ nodes_to x.number rest)) (same_number x.number)
up_to_at (y ∷ ys) rest x l =
    let p = dead_parts x.number (y ∷ []) ys l in
    let e : (y.number == x.number) ≡ false = head_dead (y.number == x.number) p.0 in
    ap (λ b. cond b (y ∷ []) (y ∷ nodes_to x.number (ys ++ x ∷ rest))) e ∙ ap (λ t. y ∷ t) (up_to_at ys rest x p.1)
  where
    head_dead : (b : Bool) → (b || false) ≡ false → b ≡ false
    head_dead true h = absurd cc
    head_dead false h = refl

behind_at : (front rest : List TokenNode) (x : TokenNode) → is_live x.number front ≡ false → nodes_after x.number (front ++ x ∷ rest) ≡ rest
unfolding nodes_after
behind_at [] rest x l = ap (λ b. cond b rest (nodes_after x.number rest)) (same_number x.number)
behind_at (y ∷ ys) rest x l =
    let p = dead_parts x.number (y ∷ []) ys l in
    let e : (y.number == x.number) ≡ false = head_dead (y.number == x.number) p.0 in
    ap (λ b. cond b (ys ++ x ∷ rest) (nodes_after x.number (ys ++ x ∷ rest))) e ∙ behind_at ys rest x p.1
  where
    head_dead : (b : Bool) → (b || false) ≡ false → b ≡ false
    head_dead true h = absurd cc
    head_dead false h = refl

before_at : (front rest : List TokenNode) (x : TokenNode) → is_live x.number front ≡ false → nodes_before x.number (front ++ x ∷ rest) ≡ front
unfolding nodes_before
before_at [] rest x l = ap (λ b. cond b [] (x ∷ nodes_before x.number rest)) (same_number x.number)
before_at (y ∷ ys) rest x l =
    let p = dead_parts x.number (y ∷ []) ys l in
    let e : (y.number == x.number) ≡ false = head_dead (y.number == x.number) p.0 in
    ap (λ b. cond b [] (y ∷ nodes_before x.number (ys ++ x ∷ rest))) e ∙ ap (λ t. y ∷ t) (before_at ys rest x p.1)
  where
    head_dead : (b : Bool) → (b || false) ≡ false → b ≡ false
    head_dead true h = absurd cc
    head_dead false h = refl

-- the nodes are those done and those ahead
pub whole : (last : Option ℕ) (nodes : List TokenNode) → IsLast last nodes → nodes ≡ nodes_done last nodes ++ nodes_ahead last nodes
whole None nodes l = refl
whole (Some n) nodes l =
    let f = found n nodes l in
    f.whole ∙ (sym (append_assoc (nodes_before n nodes) (f.node ∷ []) (nodes_after n nodes)) ∙ ap (λ t. t ++ nodes_after n nodes) (sym f.up_there))

done_again : (last : Option ℕ) (nodes rest : List TokenNode) → IsLast last nodes → nodes_done last (nodes_done last nodes ++ rest) ≡ nodes_done last nodes
done_again None nodes rest l = refl
done_again (Some n) nodes rest l = up_to_front n (nodes_to n nodes) rest (up_to_live n nodes l) ∙ up_to_twice n nodes

ahead_again : (last : Option ℕ) (nodes rest : List TokenNode) → IsLast last nodes → nodes_ahead last (nodes_done last nodes ++ rest) ≡ rest
ahead_again None nodes rest l = refl
ahead_again (Some n) nodes rest l = behind_front n (nodes_to n nodes) rest (up_to_live n nodes l) ∙ ap (λ t. t ++ rest) (behind_up_to n nodes)

last_again : (last : Option ℕ) (nodes rest : List TokenNode) → IsLast last nodes → IsLast last (nodes_done last nodes ++ rest)
last_again None nodes rest l = tt
last_again (Some n) nodes rest l = live_left n (nodes_to n nodes) rest (up_to_live n nodes l)

inserted_is : (last : Option ℕ) (x : TokenNode) (nodes : List TokenNode) → inserted last x nodes ≡ nodes_done last nodes ++ x ∷ nodes_ahead last nodes
inserted_is None x nodes = refl
inserted_is (Some n) x nodes = refl

-- a node is put behind those done
pub put_last : (last : Option ℕ) (x : TokenNode) (nodes new : List TokenNode) → new ≡ inserted last x nodes → IsLast last nodes → IsLast last new
put_last last x nodes new e l = subst (IsLast last) (sym (e ∙ inserted_is last x nodes)) (last_again last nodes (x ∷ nodes_ahead last nodes) l)

pub put_done : (last : Option ℕ) (x : TokenNode) (nodes new : List TokenNode) → new ≡ inserted last x nodes → IsLast last nodes
    → tokens (nodes_done last new) ≡ tokens (nodes_done last nodes)
put_done last x nodes new e l =
    ap (λ t. tokens (nodes_done last t)) (e ∙ inserted_is last x nodes) ∙ ap tokens (done_again last nodes (x ∷ nodes_ahead last nodes) l)

pub put_ahead : (last : Option ℕ) (x : TokenNode) (nodes new : List TokenNode) → new ≡ inserted last x nodes → IsLast last nodes
    → tokens (nodes_ahead last new) ≡ x.token ∷ tokens (nodes_ahead last nodes)
put_ahead last x nodes new e l =
    ap (λ t. tokens (nodes_ahead last t)) (e ∙ inserted_is last x nodes) ∙ ap tokens (ahead_again last nodes (x ∷ nodes_ahead last nodes) l)

not_done : (last : Option ℕ) (nodes : List TokenNode) (n : ℕ) → IsLast last nodes → ¬ (is_live n nodes ≡ true) → is_live n (nodes_done last nodes) ≡ false
not_done last nodes n l h =
    ⊎_elim
    (λ (e : is_live n (nodes_done last nodes) ≡ true). absurd (h (ap (is_live n) (whole last nodes l) ∙ live_left n (nodes_done last nodes) (nodes_ahead last nodes) e)))
    (λ (e : is_live n (nodes_done last nodes) ≡ false). e)
    (cases_Bool (is_live n (nodes_done last nodes)))

-- a node is put behind those done, as one of them
pub keep_done : (last : Option ℕ) (x : TokenNode) (nodes new : List TokenNode) → new ≡ inserted last x nodes → IsLast last nodes → ¬ (is_live x.number nodes ≡ true)
    → tokens (nodes_to x.number new) ≡ tokens (nodes_done last nodes) ++ x.token ∷ []
keep_done last x nodes new e l h =
    ap (λ t. tokens (nodes_to x.number t)) (e ∙ inserted_is last x nodes)
    ∙ (ap tokens (up_to_at (nodes_done last nodes) (nodes_ahead last nodes) x (not_done last nodes x.number l h))
    ∙ map-append (λ (y : TokenNode). y.token) (nodes_done last nodes) (x ∷ []))

pub keep_ahead : (last : Option ℕ) (x : TokenNode) (nodes new : List TokenNode) → new ≡ inserted last x nodes → IsLast last nodes → ¬ (is_live x.number nodes ≡ true)
    → tokens (nodes_after x.number new) ≡ tokens (nodes_ahead last nodes)
keep_ahead last x nodes new e l h =
    ap (λ t. tokens (nodes_after x.number t)) (e ∙ inserted_is last x nodes)
    ∙ ap tokens (behind_at (nodes_done last nodes) (nodes_ahead last nodes) x (not_done last nodes x.number l h))

-- nodes with other partners
abbrev kept_in : List TokenNode → List TokenNode → List TokenNode
kept_in all nodes = map (λ x. record { number = x.number; token = x.token; partner = live_partner all x.partner }) nodes

tokens_kept : (all xs : List TokenNode) → tokens (kept_in all xs) ≡ tokens xs
tokens_kept all [] = refl
tokens_kept all (x ∷ xs) = ap (λ t. x.token ∷ t) (tokens_kept all xs)

up_to_kept : (n : ℕ) (all xs : List TokenNode) → nodes_to n (kept_in all xs) ≡ kept_in all (nodes_to n xs)
unfolding nodes_to
up_to_kept n all [] = refl
up_to_kept n all (x ∷ xs) =
    ⊎_elim
    (λ (e : (x.number == n) ≡ true). rw e refl)
    (λ (e : (x.number == n) ≡ false). rw e (ap (λ t. (record { number = x.number; token = x.token; partner = live_partner all x.partner }) ∷ t) (up_to_kept n all xs)))
    (cases_Bool (x.number == n))

behind_kept : (n : ℕ) (all xs : List TokenNode) → nodes_after n (kept_in all xs) ≡ kept_in all (nodes_after n xs)
unfolding nodes_after
behind_kept n all [] = refl
behind_kept n all (x ∷ xs) =
    ⊎_elim
    (λ (e : (x.number == n) ≡ true). rw e refl)
    (λ (e : (x.number == n) ≡ false). rw e (behind_kept n all xs))
    (cases_Bool (x.number == n))

live_kept : (n : ℕ) (all xs : List TokenNode) → is_live n (kept_in all xs) ≡ is_live n xs
live_kept n all [] = refl
live_kept n all (x ∷ xs) = ap (λ t. (x.number == n) || t) (live_kept n all xs)

done_kept : (last : Option ℕ) (all xs : List TokenNode) → tokens (nodes_done last (kept_in all xs)) ≡ tokens (nodes_done last xs)
done_kept None all xs = refl
done_kept (Some n) all xs = ap tokens (up_to_kept n all xs) ∙ tokens_kept all (nodes_to n xs)

ahead_kept : (last : Option ℕ) (all xs : List TokenNode) → tokens (nodes_ahead last (kept_in all xs)) ≡ tokens (nodes_ahead last xs)
ahead_kept None all xs = tokens_kept all xs
ahead_kept (Some n) all xs = ap tokens (behind_kept n all xs) ∙ tokens_kept all (nodes_after n xs)

last_kept : (last : Option ℕ) (all xs : List TokenNode) → IsLast last xs → IsLast last (kept_in all xs)
last_kept None all xs l = tt
last_kept (Some n) all xs l = live_kept n all xs ∙ l

-- the nodes that are done have no partners
abbrev pub IsDoneAlone : Option ℕ → List TokenNode → Type 0
IsDoneAlone last nodes = HasNoPartners (nodes_done last nodes)

abbrev IsAlone : TokenNode → Type 0
IsAlone x = x.partner ≡ None

kept_alone : (all xs : List TokenNode) → HasNoPartners xs → HasNoPartners (kept_in all xs)
kept_alone all [] h = All-nil _
kept_alone all (x ∷ xs) h =
    All-cons IsAlone (record { number = x.number; token = x.token; partner = live_partner all x.partner }) (kept_in all xs)
    (ap (live_partner all) {x = x.partner} {y = None} (All-head IsAlone x xs h)) (kept_alone all xs (All-tail IsAlone x xs h))

done_kept_in : (last : Option ℕ) (all xs : List TokenNode) → nodes_done last (kept_in all xs) ≡ kept_in all (nodes_done last xs)
done_kept_in None all xs = refl
done_kept_in (Some n) all xs = up_to_kept n all xs

-- The first node ahead.
pub record First (last : Option ℕ) (nodes : List TokenNode) (n : ℕ) : Type 0 where
  pub node : TokenNode
  pub rest : List TokenNode
  pub ahead : nodes_ahead last nodes ≡ node ∷ rest
  pub is_node : node_of n nodes ≡ Some node
  pub erased_is : erased n nodes ≡ with_live_partners (nodes_done last nodes ++ rest)
  pub up_there : nodes_to n nodes ≡ nodes_done last nodes ++ node ∷ []
  pub behind : nodes_after n nodes ≡ rest

node_at : (front rest : List TokenNode) (x : TokenNode) → is_live x.number front ≡ false → node_of x.number (front ++ x ∷ rest) ≡ Some x
node_at [] rest x l = ap (λ b. cond b (Some x) (node_of x.number rest)) (same_number x.number)
node_at (y ∷ ys) rest x l =
    let p = dead_parts x.number (y ∷ []) ys l in
    let e : (y.number == x.number) ≡ false = head_dead (y.number == x.number) p.0 in
    ap (λ b. cond b (Some y) (node_of x.number (ys ++ x ∷ rest))) e ∙ node_at ys rest x p.1
  where
    head_dead : (b : Bool) → (b || false) ≡ false → b ≡ false
    head_dead true h = absurd cc
    head_dead false h = refl

first_at : (last : Option ℕ) (nodes : List TokenNode) (x : TokenNode) (rest : List TokenNode) → IsTokenList nodes → IsLast last nodes
    → nodes_ahead last nodes ≡ x ∷ rest → First last nodes x.number
first_at last nodes x rest k l e =
    let front = nodes_done last nodes in
    let w : nodes ≡ front ++ x ∷ rest = whole last nodes l ∙ ap (λ t. front ++ t) e in
    let d : IsNumbered (front ++ x ∷ rest) = subst IsNumbered w k.distinct in
    let f : is_live x.number front ≡ false =
    ⊎_elim
    (λ (a : is_live x.number front ≡ true). absurd (let b = numbered_apart front (x ∷ rest) d x.number a in let c : is_live x.number (x ∷ rest) ≡ true = ap (λ t. t || is_live x.number rest) (same_number x.number) in both_ways (is_live x.number (x ∷ rest)) b c))
    (λ (a : is_live x.number front ≡ false). a)
    (cases_Bool (is_live x.number front)) in
    record {
      node = x;
      rest = rest;
      ahead = e;
      is_node = ap (node_of x.number) w ∙ node_at front rest x f;
      erased_is = ap with_live_partners (ap₂ (λ a b. a ++ b) (ap (nodes_before x.number) w ∙ before_at front rest x f) (ap (nodes_after x.number) w ∙ behind_at front rest x f));
      up_there = ap (nodes_to x.number) w ∙ up_to_at front rest x f;
      behind = ap (nodes_after x.number) w ∙ behind_at front rest x f;
    }

pub first_is : (last : Option ℕ) (nodes : List TokenNode) (n : ℕ) → IsTokenList nodes → IsLast last nodes → Some n ≡ first_of (nodes_ahead last nodes) → First last nodes n
first_is last nodes n k l e = by (nodes_ahead last nodes) refl e
  where
    by : (ahead : List TokenNode) → nodes_ahead last nodes ≡ ahead → Some n ≡ first_of ahead → First last nodes n
    by [] a e = absurd cc
    by (x ∷ rest) a e = let s : x.number ≡ n = cc in subst (First last nodes) s (first_at last nodes x rest k l a)

pub token_at : (n : ℕ) (nodes : List TokenNode) (t : Token) (x : TokenNode) → node_of n nodes ≡ Some x → token_of n nodes ≡ Some t → t ≡ x.token
token_at n nodes t x e h =
    let f : token_of n nodes ≡ Some x.token = ap (option_map (λ (y : TokenNode). y.token)) e in
    cc

pub first_ahead : (last : Option ℕ) (nodes : List TokenNode) (n : ℕ) (t : Token) (f : First last nodes n) → token_of n nodes ≡ Some t
    → tokens (nodes_ahead last nodes) ≡ t ∷ tokens f.rest
first_ahead last nodes n t f h =
    let s = token_at n nodes t f.node f.is_node h in
    ap tokens f.ahead ∙ ap (λ y. y ∷ tokens f.rest) (sym s)

-- the first node ahead is taken out
pub pop_last : (last : Option ℕ) (nodes new : List TokenNode) (n : ℕ) → First last nodes n → IsLast last nodes → new ≡ erased n nodes → IsLast last new
unfolding with_live_partners
pop_last last nodes new n f l e =
    subst (IsLast last) (sym (e ∙ f.erased_is)) (last_kept last (nodes_done last nodes ++ f.rest) (nodes_done last nodes ++ f.rest) (last_again last nodes f.rest l))

pub pop_done : (last : Option ℕ) (nodes new : List TokenNode) (n : ℕ) → First last nodes n → IsLast last nodes → new ≡ erased n nodes
    → tokens (nodes_done last new) ≡ tokens (nodes_done last nodes)
unfolding with_live_partners
pop_done last nodes new n f l e =
    ap (λ t. tokens (nodes_done last t)) (e ∙ f.erased_is) ∙ (done_kept last (nodes_done last nodes ++ f.rest) (nodes_done last nodes ++ f.rest) ∙ ap tokens (done_again last nodes f.rest l))

pub pop_ahead : (last : Option ℕ) (nodes new : List TokenNode) (n : ℕ) (t : Token) (f : First last nodes n) → IsLast last nodes → new ≡ erased n nodes
    → token_of n nodes ≡ Some t → tokens (nodes_ahead last nodes) ≡ t ∷ tokens (nodes_ahead last new)
unfolding with_live_partners
pop_ahead last nodes new n t f l e h =
    let s = token_at n nodes t f.node f.is_node h in
    let r : tokens (nodes_ahead last new) ≡ tokens f.rest =
    ap (λ y. tokens (nodes_ahead last y)) (e ∙ f.erased_is) ∙ (ahead_kept last (nodes_done last nodes ++ f.rest) (nodes_done last nodes ++ f.rest) ∙ ap tokens (ahead_again last nodes f.rest l)) in
    ap tokens f.ahead ∙ ap₂ (λ a b. a ∷ b) (sym s) (sym r)

-- what the edits make of the nodes that are done has no partners
pub put_alone : (last : Option ℕ) (x : TokenNode) (nodes new : List TokenNode) → new ≡ inserted last x nodes → IsLast last nodes → IsDoneAlone last nodes
    → IsDoneAlone last new
put_alone last x nodes new e l h =
    subst HasNoPartners (sym (ap (nodes_done last) (e ∙ inserted_is last x nodes) ∙ done_again last nodes (x ∷ nodes_ahead last nodes) l)) h

pub keep_alone : (last : Option ℕ) (x : TokenNode) (nodes new : List TokenNode) → new ≡ inserted last x nodes → IsLast last nodes → ¬ (is_live x.number nodes ≡ true)
    → x.partner ≡ None → IsDoneAlone last nodes → HasNoPartners (nodes_to x.number new)
keep_alone last x nodes new e l h n a =
    subst HasNoPartners
    (sym (ap (nodes_to x.number) (e ∙ inserted_is last x nodes) ∙ up_to_at (nodes_done last nodes) (nodes_ahead last nodes) x (not_done last nodes x.number l h)))
    (All-append IsAlone (nodes_done last nodes) (x ∷ []) a (All-cons IsAlone x [] n (All-nil IsAlone)))

pub pop_alone : (last : Option ℕ) (nodes new : List TokenNode) (n : ℕ) → First last nodes n → IsLast last nodes → new ≡ erased n nodes → IsDoneAlone last nodes
    → IsDoneAlone last new
unfolding with_live_partners
pop_alone last nodes new n f l e a =
    let all = nodes_done last nodes ++ f.rest in
    subst HasNoPartners
    (sym (ap (nodes_done last) (e ∙ f.erased_is) ∙ (done_kept_in last all all ∙ ap (kept_in all) (done_again last nodes f.rest l))))
    (kept_alone all (nodes_done last nodes) a)

no_node : (nodes : List TokenNode) → tokens nodes ≡ [] → nodes ≡ []
no_node [] e = refl
no_node (x ∷ xs) e = absurd cc

pub end_alone : (last : Option ℕ) (nodes : List TokenNode) → IsLast last nodes → IsDoneAlone last nodes → tokens (nodes_ahead last nodes) ≡ [] → HasNoPartners nodes
end_alone last nodes l a e =
    subst HasNoPartners (sym (whole last nodes l ∙ (ap (λ t. nodes_done last nodes ++ t) (no_node (nodes_ahead last nodes) e) ∙ append-nil (nodes_done last nodes)))) a

-- the first node ahead is passed
pub pass_done : (last : Option ℕ) (nodes : List TokenNode) (n : ℕ) (t : Token) (rest : List Token) (f : First last nodes n) → tokens (nodes_ahead last nodes) ≡ t ∷ rest
    → (tokens (nodes_to n nodes) ≡ tokens (nodes_done last nodes) ++ t ∷ []) × (tokens (nodes_after n nodes) ≡ rest)
pass_done last nodes n t rest f e =
    let a : f.node.token ∷ tokens f.rest ≡ t ∷ rest = sym (ap tokens f.ahead) ∙ e in
    let s : f.node.token ≡ t = cc in
    let r : tokens f.rest ≡ rest = cc in (
      ap tokens f.up_there ∙ (map-append (λ (y : TokenNode). y.token) (nodes_done last nodes) (f.node ∷ []) ∙ ap (λ y. tokens (nodes_done last nodes) ++ y ∷ []) s),
      ap tokens f.behind ∙ r,
    )

pub pass_alone : (last : Option ℕ) (nodes : List TokenNode) (n : ℕ) (f : First last nodes n) → partner_of n nodes ≡ None → IsDoneAlone last nodes
    → HasNoPartners (nodes_to n nodes)
pass_alone last nodes n f p h =
    let alone : f.node.partner ≡ None = sym (ap partner_in f.is_node) ∙ p in
    subst HasNoPartners (sym f.up_there) (All-append IsAlone (nodes_done last nodes) (f.node ∷ []) h (All-cons IsAlone f.node [] alone (All-nil IsAlone)))

pub none_from : (o : Option ℕ) → is_some o ≡ false → o ≡ None
none_from None e = refl
none_from (Some n) e = absurd cc
