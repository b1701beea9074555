-- Simplifying from one node to the next.
use Rattle.std.proofs.Common.{◌≡◌, ℕ, ◌-◌, ◌<◌, arith, List, [], ◌∷◌, ◌++◌, Option, Some, None, Bool, true, false, ◌&&◌, refl, sym, ap, ap₂, ◌∙◌, subst, append_assoc, append-nil, length, length-append, take, drop}
use Rattle.std.specs.Option.{option_map}
use Rattle.std.proofs.lemmas.Bool.{and_from, both_ways, cond-true, cond-false, eq-eqb, false_from_ne_true, or_left}
use Rattle.cx_tokens.specs.declared.token.Token.{Token}
use Rattle.cx_tokens.specs.Nodes.{IsTokenList, TokenNode, first_of, is_live, node_of, nodes_after, nodes_before, nodes_from, spliced, token_of, with_live_partners}
use Rattle.cx_tokens.specs.Brackets.{IsPaired}
use Rattle.cx_tokens.specs.Simplified.{IsPartlySimplified, IsSimplified, is_string, joined, parts_of}
use Rattle.cx_tokens.specs.Shapes.Links.{rest_from}
use Rattle.cx_tokens.specs.Shapes.Sweeping.{AfterWord, AllStrings, IsGone, IsJoined, IsNextString, IsPlainAt, IsRun, IsStaying, IsStopped, IsStringAt, IsSwept, Plain, SetsText, State, Sweeps, SweepsOn, Within, all_joined_to_end, are_strings, begins_string, ends_string, joined_all, joined_node, joined_to_end, node_stays, state_after_all, state_at, staying_nodes, with_text}
use Rattle.cx_tokens.proofs.LinkRuns.{after_append, numbered_dead, split_at}
use Rattle.cx_tokens.proofs.MateLaws.{paired_list}
use Rattle.cx_tokens.proofs.NodeLaws.{IsNumbered, found, live_left, live_right, numbered_apart}
use Rattle.cx_tokens.proofs.PartLaws.{node_at, fresh_none, same_settled}
use Rattle.cx_tokens.proofs.SimplifyLaws.{at_other, behind_entered, plain_after, plain_kept, string_plain}
use Rattle.cx_tokens.proofs.SweepLaws.{kept_append, kept_one, put_all_append, put_all_none, put_all_one, put_last, state_append}
use Rattle.cx_tokens.proofs.SweptPairs.{front_numbered, front_paired}
use Rattle.cx_tokens.proofs.TextLaws.{live_texted}
use Rattle.cx_tokens.proofs.UnadornedLaws.{state_other, stopped_partly, swept_simplified}

cons_same : {x y : TokenNode} {xs ys : List TokenNode} → x ∷ xs ≡ y ∷ ys → (x ≡ y) × (xs ≡ ys)
cons_same e = (cc, cc)

some_same : {i j : ℕ} → Some i ≡ Some j → i ≡ j
some_same e = cc

-- ---- the state in front of nodes

pub plain_on : (state : State) (rest : List TokenNode) → IsPlainAt state rest → staying_nodes state rest ≡ staying_nodes Plain rest
unfolding staying_nodes
plain_on Plain rest h = refl
plain_on AfterWord [] h = refl
plain_on AfterWord (x ∷ xs) h = behind_entered x xs Plain (at_other x h)
plain_on (Within n) rest h = absurd h

pub plain_run : (state : State) (run left : List TokenNode) → 0 < length run → IsPlainAt state (run ++ left) → staying_nodes state run ≡ staying_nodes Plain run
plain_run state [] left l h = absurd (omega arith)
plain_run Plain (x ∷ run) left l h = refl
plain_run AfterWord (x ∷ run) left l h = behind_entered x run Plain (at_other x h)
plain_run (Within n) (x ∷ run) left l h = absurd h

plain_state : (state : State) (x : TokenNode) (run left : List TokenNode) → IsPlainAt state (x ∷ (run ++ left)) → state_after_all state (x ∷ run) ≡ state_after_all Plain (x ∷ run)
unfolding state_after_all state_at
plain_state Plain x run left h = refl
plain_state AfterWord x run left h = state_other x run h
plain_state (Within n) x run left h = absurd h

pub plain_more : (front run left : List TokenNode) → 0 < length run → IsPlainAt (state_after_all Plain front) (run ++ left) → IsPlainAt (state_after_all Plain run) left → IsPlainAt (state_after_all Plain (front ++ run)) left
plain_more front [] left l h k = absurd (omega arith)
plain_more front (x ∷ run) left l h k =
    subst (λ s. IsPlainAt s left) (sym (state_append Plain front (x ∷ run) ∙ plain_state (state_after_all Plain front) x run left h)) k

pub rest_kept : (gone rest : List TokenNode) → staying_nodes Plain gone ≡ [] → IsPlainAt (state_after_all Plain gone) rest → staying_nodes Plain (gone ++ rest) ≡ staying_nodes Plain rest
rest_kept gone rest e h = kept_append Plain gone rest ∙ ap₂ (λ x y. x ++ y) e (plain_on (state_after_all Plain gone) rest h)

state_one : (x : TokenNode) (rest : List TokenNode) → node_stays Plain x ≡ true → IsPlainAt (state_after_all Plain (x ∷ [])) rest
unfolding state_after_all state_at
state_one x rest h = subst (λ s. IsPlainAt s rest) (sym (plain_after x h)) tt

one_state : (x : TokenNode) → node_stays Plain x ≡ true → state_after_all Plain (x ∷ []) ≡ Plain
unfolding state_after_all state_at
one_state x h = plain_after x h

one_kept : (x : TokenNode) → node_stays Plain x ≡ true → staying_nodes Plain (x ∷ []) ≡ x ∷ []
unfolding state_at
one_kept x h = kept_one Plain x h

pub first_kept : (x : TokenNode) (xs : List TokenNode) → node_stays Plain x ≡ true → staying_nodes Plain (x ∷ xs) ≡ x ∷ staying_nodes Plain xs
first_kept x xs h = plain_kept (x ∷ []) xs (h, tt)

-- ---- a front that grows

abbrev pub some_joined : List TokenNode → List TokenNode
some_joined front = all_joined_to_end [] (staying_nodes Plain front)

front_joined : (front run left more : List TokenNode) → 0 < length run → IsPlainAt (state_after_all Plain front) (run ++ left)
    → all_joined_to_end (all_joined_to_end [] (staying_nodes Plain front)) (staying_nodes Plain run) ≡ more → all_joined_to_end [] (staying_nodes Plain (front ++ run)) ≡ more
front_joined front run left more l h m =
    ap (all_joined_to_end []) (kept_append Plain front run ∙ ap (λ t. staying_nodes Plain front ++ t) (plain_run (state_after_all Plain front) run left l h))
    ∙ put_all_append [] (staying_nodes Plain front) (staying_nodes Plain run) ∙ m

pub extend : (all old new : List TokenNode) (n : ℕ) (next : Option ℕ) (s : IsSwept all old (Some n)) (run left more : List TokenNode) → s.rest ≡ run ++ left → 0 < length run → IsPlainAt (state_after_all Plain run) left
    → all_joined_to_end (all_joined_to_end [] (staying_nodes Plain s.front)) (staying_nodes Plain run) ≡ more → new ≡ more ++ left → (ends_string more && begins_string (staying_nodes Plain left)) ≡ false → next ≡ first_of left
    → SweepsOn all old new n next s
extend all old new n next s run left more e l k m w a f =
    let here = subst (λ t. IsPlainAt (state_after_all Plain s.front) t) e s.plain in
    let done = front_joined s.front run left more l here m in
    record {
      swept = record {
        front = s.front ++ run;
        rest = left;
        whole = s.whole ∙ ap (λ t. s.front ++ t) e ∙ sym (append_assoc s.front run left);
        made = w ∙ ap (λ t. t ++ left) (sym done);
        plain = plain_more s.front run left l here k;
        apart = subst (λ t. (ends_string t && begins_string (staying_nodes Plain left)) ≡ false) (sym done) a;
        at_is = f;
      };
      shorter = let p = ap length e in let q = length-append run left in omega (arith, p, q, l);
    }

pub settled_front : (all old : List TokenNode) (n : ℕ) (s : IsSwept all old (Some n)) (run left more : List TokenNode) → IsPaired all → IsNumbered all → s.rest ≡ run ++ left → 0 < length run → IsPlainAt (state_after_all Plain run) left
    → all_joined_to_end (all_joined_to_end [] (staying_nodes Plain s.front)) (staying_nodes Plain run) ≡ more → with_live_partners (more ++ left) ≡ more ++ left
settled_front all old n s run left more p d e l k m =
    let here = subst (λ t. IsPlainAt (state_after_all Plain s.front) t) e s.plain in
    let done = front_joined s.front run left more l here m in
    let whole = s.whole ∙ ap (λ t. s.front ++ t) e ∙ sym (append_assoc s.front run left) in
    let numbered = subst IsNumbered whole d in
    let list = paired_list (some_joined (s.front ++ run) ++ left) (front_paired (s.front ++ run) left (plain_more s.front run left l here k) (subst IsPaired whole p) numbered)
    (front_numbered (s.front ++ run) left numbered) in
    let good : IsTokenList (more ++ left) = subst (λ t. IsTokenList (t ++ left)) done list in
    same_settled [] (more ++ left) [] good (fresh_none (more ++ left))

-- ---- the node at hand

pub record IsHere (all nodes : List TokenNode) (n : ℕ) (s : IsSwept all nodes (Some n)) : Type 0 where
  pub node : TokenNode
  pub others : List TokenNode
  pub rest_is : s.rest ≡ node ∷ others
  pub number_is : node.number ≡ n
  pub before : nodes_before n nodes ≡ all_joined_to_end [] (staying_nodes Plain s.front)
  pub from : nodes_from n nodes ≡ s.rest
  pub after : nodes_after n nodes ≡ others
  pub live : is_live n nodes ≡ true

pub swept_here : (all nodes : List TokenNode) (n : ℕ) → IsNumbered all → (s : IsSwept all nodes (Some n)) → IsHere all nodes n s
swept_here all nodes n d s = at_rest s.rest refl
  where
    at_rest : (rest : List TokenNode) → s.rest ≡ rest → IsHere all nodes n s
    at_rest [] e = absurd (let a = s.at_is ∙ ap first_of e in cc)
    at_rest (x ∷ rest) e =
        let done = some_joined s.front in
        let number : x.number ≡ n = sym (some_same (s.at_is ∙ ap first_of e)) in
        let numbered = subst (λ t. IsNumbered (done ++ t)) e (front_numbered s.front s.rest (subst IsNumbered s.whole d)) in
        let whole = s.made ∙ ap (λ t. done ++ t) e in
        let u = split_at n done x rest (subst (λ k. is_live k done ≡ false) number (numbered_dead done x rest numbered)) number in
        record {
          node = x;
          others = rest;
          rest_is = e;
          number_is = number;
          before = ap (nodes_before n) whole ∙ u.before;
          from = ap (nodes_from n) whole ∙ u.from ∙ sym e;
          after = ap (nodes_after n) whole ∙ u.after;
          live = subst (λ t. is_live n t ≡ true) (sym whole) (live_right n done (x ∷ rest) (or_left _ _ (eq-eqb x.number n number)));
        }

pub swept_paired : (all nodes : List TokenNode) (at : Option ℕ) → IsPaired all → IsNumbered all → IsSwept all nodes at → IsPaired nodes
swept_paired all nodes at p d s = subst IsPaired (sym s.made) (front_paired s.front s.rest s.plain (subst IsPaired s.whole p) (subst IsNumbered s.whole d))

pub swept_numbered : (all nodes : List TokenNode) (at : Option ℕ) → IsNumbered all → IsSwept all nodes at → IsNumbered nodes
swept_numbered all nodes at d s = subst IsNumbered (sym s.made) (front_numbered s.front s.rest (subst IsNumbered s.whole d))

pub swept_rest : (all nodes : List TokenNode) (at : Option ℕ) → IsNumbered all → (s : IsSwept all nodes at) → rest_from at nodes ≡ s.rest
swept_rest all nodes None d s = none s.rest refl
  where
    none : (rest : List TokenNode) → s.rest ≡ rest → [] ≡ s.rest
    none [] e = sym e
    none (x ∷ rest) e = absurd (let a = s.at_is ∙ ap first_of e in cc)
swept_rest all nodes (Some n) d s = (swept_here all nodes n d s).from

pub swept_start : (nodes : List TokenNode) (at : Option ℕ) → at ≡ first_of nodes → IsSwept nodes nodes at
unfolding staying_nodes state_after_all all_joined_to_end
swept_start nodes at e = record { front = []; rest = nodes; whole = refl; made = refl; plain = tt; apart = refl; at_is = e }

pub swept_end : (all nodes : List TokenNode) (at : Option ℕ) → at ≡ None → IsPaired all → IsNumbered all → IsSwept all nodes at → IsSimplified all nodes
swept_end all nodes at e p d s = at_rest s.rest refl
  where
    at_rest : (rest : List TokenNode) → s.rest ≡ rest → IsSimplified all nodes
    at_rest (x ∷ rest) k = absurd (let a = sym e ∙ s.at_is ∙ ap first_of k in cc)
    at_rest [] k =
        let whole : all ≡ s.front = s.whole ∙ ap (λ t. s.front ++ t) k ∙ append-nil s.front in
        let made : nodes ≡ all_joined_to_end [] (staying_nodes Plain all) =
        s.made ∙ ap (λ t. some_joined s.front ++ t) k ∙ append-nil (some_joined s.front) ∙ ap (λ t. all_joined_to_end [] (staying_nodes Plain t)) (sym whole) in
        subst (IsSimplified all) (sym made) (swept_simplified all p d)

stops : (state : State) (x : TokenNode) (xs : List TokenNode) → IsPlainAt state (x ∷ xs) → node_stays Plain x ≡ true → node_stays (state_at state x) x ≡ true
unfolding state_at
stops Plain x xs h k = k
stops AfterWord x xs h k = subst (λ s. node_stays s x ≡ true) (sym (at_other x h)) k
stops (Within n) x xs h k = absurd h

pub swept_stop : (all nodes new : List TokenNode) (n : ℕ) → new ≡ nodes → IsPaired all → IsNumbered all → IsStringAt nodes n → IsSwept all nodes (Some n) → IsPartlySimplified all new
swept_stop all nodes new n w p d t s =
    let h = swept_here all nodes n d s in
    let same : t.0 ≡ h.node.token = the_token t.0 h.node h.others h.number_is h.rest_is t.1 in
    let stays = string_plain h.node (subst (λ u. is_string u.kind ≡ true) same t.2) in
    let e = h.rest_is in
    let stopped : IsStopped all new = record {
      front = s.front;
      next = h.node;
      rest = h.others;
      whole = s.whole ∙ ap (λ t. s.front ++ t) e;
      made = w ∙ s.made ∙ ap (λ t. some_joined s.front ++ t) e;
      stays = stops (state_after_all Plain s.front) h.node h.others (subst (λ t. IsPlainAt (state_after_all Plain s.front) t) e s.plain) stays;
    } in
    stopped_partly all new stopped p d (subst IsPaired (sym w) (swept_paired all nodes (Some n) p d s)) (subst IsNumbered (sym w) (swept_numbered all nodes (Some n) d s))
  where
    same_some : {a b : Token} → Some a ≡ Some b → b ≡ a
    same_some e = cc

    the_token : (t : Token) (x : TokenNode) (xs : List TokenNode) → x.number ≡ n → s.rest ≡ x ∷ xs → token_of n nodes ≡ Some t → t ≡ x.token
    the_token t x xs e r k =
        let done = some_joined s.front in
        let whole = s.made ∙ ap (λ t. done ++ t) r in
        let numbered = subst IsNumbered whole (swept_numbered all nodes (Some n) d s) in
        let found : node_of n nodes ≡ Some x = ap (node_of n) whole ∙ subst (λ m. node_of m (done ++ x ∷ xs) ≡ Some x) e (node_at done x xs numbered) in
        same_some (sym (ap (option_map (λ (y : TokenNode). y.token)) found) ∙ k)

-- ---- what goes

pub sweeps_gone : (nodes new : List TokenNode) (n last : ℕ) (next : Option ℕ) → IsGone nodes n last → new ≡ spliced n last [] nodes → next ≡ first_of (nodes_after last nodes) → Sweeps nodes new n next
unfolding Sweeps
sweeps_gone nodes new n last next g w f = λ all p d s.
    let h = swept_here all nodes n d s in
    let done = some_joined s.front in
    let e : s.rest ≡ g.gone ++ g.rest = sym h.from ∙ g.whole in
    let kept : all_joined_to_end done (staying_nodes Plain g.gone) ≡ done = ap (all_joined_to_end done) g.none_stay ∙ put_all_none done in
    let is : new ≡ done ++ g.rest = w ∙ ap₂ (λ x y. with_live_partners (x ++ y)) h.before g.after ∙ settled_front all nodes n s g.gone g.rest done p d e g.some g.plain kept in
    let same : staying_nodes Plain s.rest ≡ staying_nodes Plain g.rest = ap (staying_nodes Plain) e ∙ rest_kept g.gone g.rest g.none_stay g.plain in
    extend all nodes new n next s g.gone g.rest done e g.some g.plain kept is (subst (λ t. (ends_string done && begins_string t) ≡ false) same s.apart) (f ∙ ap first_of g.after)

-- ---- what stays

put_end : (d : List TokenNode) (x : TokenNode) → (ends_string d && is_string x.token.kind) ≡ false → joined_to_end d x ≡ d ++ x ∷ []
unfolding joined_to_end are_strings
put_end [] x h = refl
put_end (y ∷ []) x h = cond-false (is_string y.token.kind && is_string x.token.kind) _ _ h
put_end (y ∷ z ∷ d) x h = ap (λ t. y ∷ t) (put_end (z ∷ d) x h)

ends_last : (d : List TokenNode) (x : TokenNode) → ends_string (d ++ x ∷ []) ≡ is_string x.token.kind
ends_last [] x = refl
ends_last (y ∷ []) x = refl
ends_last (y ∷ z ∷ d) x = ends_last (z ∷ d) x

put_here : (all nodes : List TokenNode) (n : ℕ) (s : IsSwept all nodes (Some n)) (x : TokenNode) (xs : List TokenNode) → s.rest ≡ x ∷ xs → node_stays Plain x ≡ true
    → joined_to_end (all_joined_to_end [] (staying_nodes Plain s.front)) x ≡ all_joined_to_end [] (staying_nodes Plain s.front) ++ x ∷ []
put_here all nodes n s x xs e h =
    put_end (all_joined_to_end [] (staying_nodes Plain s.front)) x
    (subst (λ t. (ends_string (all_joined_to_end [] (staying_nodes Plain s.front)) && begins_string t) ≡ false) (ap (staying_nodes Plain) e ∙ first_kept x xs h) s.apart)

pub sweeps_one : (nodes : List TokenNode) (n : ℕ) (next : Option ℕ) (t : IsStaying nodes n) → (is_string t.node.token.kind && begins_string (staying_nodes Plain (nodes_after n nodes))) ≡ false
    → next ≡ first_of (nodes_after n nodes) → Sweeps nodes nodes n next
unfolding Sweeps
sweeps_one nodes n next t a f = λ all p d s.
    let h = swept_here all nodes n d s in
    let done = all_joined_to_end [] (staying_nodes Plain s.front) in
    let x = t.node in
    let left = nodes_after n nodes in
    let e : s.rest ≡ (x ∷ []) ++ left = sym h.from ∙ t.here in
    let kept : all_joined_to_end done (staying_nodes Plain (x ∷ [])) ≡ done ++ x ∷ [] = ap (all_joined_to_end done) (one_kept x t.stays) ∙ put_all_one done x ∙ put_here all nodes n s x left e t.stays in
    let is : nodes ≡ (done ++ x ∷ []) ++ left = s.made ∙ ap (λ u. done ++ u) e ∙ sym (append_assoc done (x ∷ []) left) in
    let one : 0 < length (x ∷ []) = omega arith in
    extend all nodes nodes n next s (x ∷ []) left (done ++ x ∷ []) e one (state_one x left t.stays) kept is
    (subst (λ b. (b && begins_string (staying_nodes Plain left)) ≡ false) (sym (ends_last done x)) a) f

-- ---- strings that are joined

joined_kind : (x y : TokenNode) → is_string (joined_node x y).token.kind ≡ is_string x.token.kind
unfolding joined_node joined
joined_kind x y = refl

put_strings : (d : List TokenNode) (x : TokenNode) (ys : List TokenNode) → is_string x.token.kind ≡ true → AllStrings ys → all_joined_to_end (d ++ x ∷ []) ys ≡ d ++ joined_all x ys ∷ []
unfolding all_joined_to_end joined_all are_strings
put_strings d x [] h k = refl
put_strings d x (y ∷ ys) h k =
    ap (λ t. all_joined_to_end t ys) (put_last d x y ∙ cond-true (is_string x.token.kind && is_string y.token.kind) _ _ (and_from _ _ h k.0))
    ∙ put_strings d (joined_node x y) ys (joined_kind x y ∙ h) k.1

joined_more : (x : TokenNode) (ys : List TokenNode) (z : TokenNode) → joined_all x (ys ++ z ∷ []) ≡ joined_node (joined_all x ys) z
unfolding joined_all
joined_more x [] z = refl
joined_more x (y ∷ ys) z = joined_more (joined_node x y) ys z

text_again : (z : TokenNode) (ys : List TokenNode) → z.token.digraph ≡ false → with_text z (joined_all z ys).token.text (joined_all z ys).token.parts ≡ joined_all z ys
unfolding with_text joined_all joined_node joined
text_again z [] e =
    ap (λ b. let t : Token = record { kind = z.token.kind; text = z.token.text; place = z.token.place; hide = z.token.hide; space = z.token.space; parts = z.token.parts; digraph = b } in
    let n : TokenNode = record { number = z.number; token = t; partner = z.partner } in n) (sym e)
text_again z (y ∷ ys) e = text_again (joined_node z y) ys refl

text_of : (x y : TokenNode) (ys : List TokenNode) → with_text x (joined_all x (y ∷ ys)).token.text (joined_all x (y ∷ ys)).token.parts ≡ joined_all x (y ∷ ys)
unfolding with_text joined_all joined_node joined
text_of x y ys = text_again (joined_node x y) ys refl

joined_text : (x : TokenNode) (z : TokenNode) → (joined_node x z).token.text ≡ take (length x.token.text - 1) x.token.text ++ drop 1 z.token.text
unfolding joined_node joined
joined_text x z = refl

joined_parts : (x : TokenNode) (z : TokenNode) → (joined_node x z).token.parts ≡ parts_of x.token.text x.token.parts ++ parts_of z.token.text z.token.parts
unfolding joined_node joined
joined_parts x z = refl

parts_some : (text parts : List ℕ) → 0 < length (parts_of text parts)
parts_some text [] = omega arith
parts_some text (p ∷ parts) = omega arith

parts_same : (text parts : List ℕ) → 0 < length parts → parts_of text parts ≡ parts
parts_same text [] l = absurd (omega arith)
parts_same text (p ∷ parts) l = refl

-- ---- the next string

pub record StringRun (nodes : List TokenNode) (n m : ℕ) : Type 0 where
  pub run : List TokenNode
  pub string : TokenNode
  pub whole : nodes_after n nodes ≡ run ++ nodes_after m nodes
  pub stay : staying_nodes Plain run ≡ string ∷ []
  pub plain : IsPlainAt (state_after_all Plain run) (nodes_after m nodes)
  pub inside : is_live m run ≡ true
  pub some : 0 < length run
  pub is_one : is_string string.token.kind ≡ true

token_there : (a : List TokenNode) (x : TokenNode) (b nodes : List TokenNode) (m : ℕ) (t : Token) → nodes ≡ a ++ x ∷ b → x.number ≡ m → IsNumbered nodes → token_of m nodes ≡ Some t → t ≡ x.token
token_there a x b nodes m t w e d k =
    let here : node_of m nodes ≡ Some x = ap (node_of m) w ∙ subst (λ i. node_of i (a ++ x ∷ b) ≡ Some x) e (node_at a x b (subst IsNumbered w d)) in
    same (sym (ap (option_map (λ (y : TokenNode). y.token)) here) ∙ k)
  where
    same : {a b : Token} → Some a ≡ Some b → b ≡ a
    same e = cc

pub string_run : (nodes : List TokenNode) (n m : ℕ) → IsNextString nodes n m → StringRun nodes n m
string_run nodes n m p =
    let x = p.string in
    let one : 0 < length (x ∷ []) = omega arith in
    let stays = string_plain x p.is_string in
    let long = length-append p.gone (x ∷ []) in
    record {
      run = p.gone ++ x ∷ [];
      string = x;
      whole = p.whole ∙ sym (append_assoc p.gone (x ∷ []) (nodes_after m nodes));
      stay = kept_append Plain p.gone (x ∷ []) ∙ ap₂ (λ a b. a ++ b) p.none_stay (plain_run (state_after_all Plain p.gone) (x ∷ []) (nodes_after m nodes) one p.plain ∙ one_kept x stays);
      plain = plain_more p.gone (x ∷ []) (nodes_after m nodes) one p.plain (state_one x (nodes_after m nodes) stays);
      inside = live_right m p.gone (x ∷ []) (or_left _ _ (eq-eqb x.number m p.number_is));
      some = omega (arith, long);
      is_one = p.is_string;
    }

string_token : (nodes : List TokenNode) (n m k : ℕ) (front : List TokenNode) (t : Token) → (p : IsNextString nodes n m) → IsNumbered nodes → nodes ≡ front ++ nodes_after n nodes → token_of m nodes ≡ Some t → t ≡ p.string.token
string_token nodes n m k front t p d w e =
    token_there (front ++ p.gone) p.string (nodes_after m nodes) nodes m t
    (w ∙ ap (λ u. front ++ u) p.whole ∙ sym (append_assoc front p.gone (p.string ∷ nodes_after m nodes))) p.number_is d e

up_to : (n : ℕ) (nodes : List TokenNode) → (l : is_live n nodes ≡ true) → nodes ≡ (nodes_before n nodes ++ (found n nodes l).node ∷ []) ++ nodes_after n nodes
up_to n nodes l = let f = found n nodes l in f.whole ∙ sym (append_assoc (nodes_before n nodes) (f.node ∷ []) (nodes_after n nodes))

pub first_joined : (nodes : List TokenNode) (n m : ℕ) (t u : Token) (text0 parts0 text parts : List ℕ) → IsNumbered nodes → is_live n nodes ≡ true → IsNextString nodes n m → token_of n nodes ≡ Some t → token_of m nodes ≡ Some u
    → text0 ≡ t.text → parts0 ≡ [] ++ parts_of t.text t.parts → text ≡ take (length text0 - 1) text0 ++ drop 1 u.text → parts ≡ parts0 ++ parts_of u.text u.parts → IsJoined nodes n text parts m
unfolding joined_all
first_joined nodes n m t u text0 parts0 text parts d l p e k a b w v =
    let f = found n nodes l in
    let r = string_run nodes n m p in
    let first : t ≡ f.node.token = token_there (nodes_before n nodes) f.node (nodes_after n nodes) nodes n t f.whole f.number d e in
    let second : u ≡ p.string.token = string_token nodes n m n (nodes_before n nodes ++ f.node ∷ []) u p d (up_to n nodes l) k in
    let some = parts_some t.text t.parts in
    let long = ap length v ∙ length-append parts0 (parts_of u.text u.parts) in
    let many = ap length b in
    record {
      node = f.node;
      middle = p.gone ++ p.string ∷ [];
      second = p.string;
      others = [];
      here = f.from_there;
      whole = p.whole ∙ sym (append_assoc p.gone (p.string ∷ []) (nodes_after m nodes));
      inside = live_right m p.gone (p.string ∷ []) (or_left _ _ (eq-eqb p.string.number m p.number_is));
      stay = let x = p.string in let one : 0 < length (x ∷ []) = omega arith in
          kept_append Plain p.gone (x ∷ []) ∙ ap₂ (λ a b. a ++ b) p.none_stay (plain_run (state_after_all Plain p.gone) (x ∷ []) (nodes_after m nodes) one p.plain ∙ one_kept x (string_plain x p.is_string));
      strings = (p.is_string, tt);
      plain = let x = p.string in let one : 0 < length (x ∷ []) = omega arith in
          plain_more p.gone (x ∷ []) (nodes_after m nodes) one p.plain (state_one x (nodes_after m nodes) (string_plain x p.is_string));
      text_is = w ∙ ap₂ (λ i j. take (length i - 1) i ++ drop 1 j) (a ∙ ap (λ i. i.text) first) (ap (λ i. i.text) second) ∙ sym (joined_text f.node p.string);
      parts_are = v ∙ ap₂ (λ i j. i ++ parts_of j.text j.parts) (b ∙ ap (λ i. parts_of i.text i.parts) first) second ∙ sym (joined_parts f.node p.string);
      some = omega (arith, long, many, some);
    }

all_strings_more : (xs : List TokenNode) (x : TokenNode) → AllStrings xs → is_string x.token.kind ≡ true → AllStrings (xs ++ x ∷ [])
all_strings_more [] x h k = (k, tt)
all_strings_more (y ∷ xs) x h k = (h.0, all_strings_more xs x h.1 k)

pub more_joined : (nodes : List TokenNode) (n k m : ℕ) (u : Token) (text parts text2 parts2 : List ℕ) → IsNumbered nodes → is_live n nodes ≡ true → IsNextString nodes k m → token_of m nodes ≡ Some u
    → text2 ≡ take (length text - 1) text ++ drop 1 u.text → parts2 ≡ parts ++ parts_of u.text u.parts → IsJoined nodes n text parts k → IsJoined nodes n text2 parts2 m
more_joined nodes n k m u text parts text2 parts2 d l p e w v j =
    let x = p.string in
    let one : 0 < length (x ∷ []) = omega arith in
    let run = p.gone ++ x ∷ [] in
    let f = found n nodes l in
    let front = (nodes_before n nodes ++ f.node ∷ []) ++ j.middle in
    let whole : nodes ≡ front ++ nodes_after k nodes = up_to n nodes l ∙ ap (λ t. (nodes_before n nodes ++ f.node ∷ []) ++ t) j.whole ∙ sym (append_assoc (nodes_before n nodes ++ f.node ∷ []) j.middle (nodes_after k nodes)) in
    let token : u ≡ x.token = string_token nodes k m k front u p d whole e in
    let run_whole : nodes_after k nodes ≡ run ++ nodes_after m nodes = p.whole ∙ sym (append_assoc p.gone (x ∷ []) (nodes_after m nodes)) in
    let run_some : 0 < length run = (let g = length-append p.gone (x ∷ []) in omega (arith, g)) in
    let run_stay : staying_nodes Plain run ≡ x ∷ [] =
    kept_append Plain p.gone (x ∷ []) ∙ ap₂ (λ a b. a ++ b) p.none_stay (plain_run (state_after_all Plain p.gone) (x ∷ []) (nodes_after m nodes) one p.plain ∙ one_kept x (string_plain x p.is_string)) in
    let run_plain = plain_more p.gone (x ∷ []) (nodes_after m nodes) one p.plain (state_one x (nodes_after m nodes) (string_plain x p.is_string)) in
    let here = subst (λ t. IsPlainAt (state_after_all Plain j.middle) t) run_whole j.plain in
    let all = j.second ∷ j.others in
    let more : joined_all j.node (all ++ x ∷ []) ≡ joined_node (joined_all j.node all) x = joined_more j.node all x in
    let long = ap length v ∙ length-append parts (parts_of u.text u.parts) in
    let some = j.some in
    record {
      node = j.node;
      middle = j.middle ++ run;
      second = j.second;
      others = j.others ++ x ∷ [];
      here = j.here;
      whole = j.whole ∙ ap (λ t. j.middle ++ t) run_whole ∙ sym (append_assoc j.middle run (nodes_after m nodes));
      inside = live_right m j.middle run (live_right m p.gone (x ∷ []) (or_left _ _ (eq-eqb x.number m p.number_is)));
      stay = kept_append Plain j.middle run ∙ ap₂ (λ a b. a ++ b) j.stay (plain_run (state_after_all Plain j.middle) run (nodes_after m nodes) run_some here ∙ run_stay);
      strings = all_strings_more all x j.strings p.is_string;
      plain = plain_more j.middle run (nodes_after m nodes) run_some here run_plain;
      text_is = w ∙ ap₂ (λ i y. take (length i - 1) i ++ drop 1 y.text) j.text_is token ∙ sym (joined_text (joined_all j.node all) x) ∙ ap (λ t. t.token.text) (sym more);
      parts_are = v ∙ ap₂ (λ i y. i ++ parts_of y.text y.parts) (j.parts_are ∙ sym (parts_same (joined_all j.node all).token.text (joined_all j.node all).token.parts (subst (λ t. 0 < length t) j.parts_are j.some))) token
          ∙ sym (joined_parts (joined_all j.node all) x) ∙ ap (λ t. t.token.parts) (sym more);
      some = omega (arith, long, some);
    }

-- ---- strings taken out behind the first

pub record RunOut (nodes mid : List TokenNode) (n last second : ℕ) (text parts : List ℕ) (x : TokenNode) : Type 0 where
  pub before : nodes_before second mid ≡ nodes_before n nodes ++ with_text x text parts ∷ []
  pub after : nodes_after last mid ≡ nodes_after last nodes
  pub second_live : is_live second mid ≡ true
  pub last_live : is_live last mid ≡ true
  pub order : is_live last (nodes_from second mid) ≡ true

pub run_out : (nodes mid : List TokenNode) (n last second : ℕ) (text parts : List ℕ) → IsNumbered nodes → is_live n nodes ≡ true → (j : IsJoined nodes n text parts last) → SetsText n text parts nodes mid
    → Some second ≡ first_of (nodes_after n nodes) → RunOut nodes mid n last second text parts j.node
unfolding SetsText
run_out nodes mid n last second text parts d l j sets f = at_middle j.middle refl
  where
    a : List TokenNode
    a = nodes_before n nodes

    at_middle : (middle : List TokenNode) → j.middle ≡ middle → RunOut nodes mid n last second text parts j.node
    at_middle [] e = absurd (let k = sym (ap (is_live last) e) ∙ j.inside in cc)
    at_middle (y ∷ middle) e =
        let rest = nodes_after last nodes in
        let x = j.node in
        let x2 = with_text x text parts in
        let f_node = found n nodes l in
        let same : f_node.node ≡ x = (cons_same (sym f_node.from_there ∙ j.here)).0 in
        let number : x.number ≡ n = ap (λ t. t.number) (sym same) ∙ f_node.number in
        let behind : nodes_after n nodes ≡ y ∷ (middle ++ rest) = j.whole ∙ ap (λ t. t ++ rest) e in
        let whole : nodes ≡ a ++ x ∷ (y ∷ (middle ++ rest)) = f_node.whole ∙ ap₂ (λ i t. a ++ i ∷ t) same behind in
        let is : mid ≡ a ++ x2 ∷ (y ∷ (middle ++ rest)) = sets a (y ∷ (middle ++ rest)) x whole number in
        let split : mid ≡ (a ++ x2 ∷ []) ++ y ∷ (middle ++ rest) = is ∙ sym (append_assoc a (x2 ∷ []) (y ∷ (middle ++ rest))) in
        let old_split : nodes ≡ (a ++ x ∷ []) ++ y ∷ (middle ++ rest) = whole ∙ sym (append_assoc a (x ∷ []) (y ∷ (middle ++ rest))) in
        let is_second : y.number ≡ second = sym (some_same (f ∙ ap first_of behind)) in
        let numbered = subst IsNumbered old_split d in
        let texted : (k : ℕ) → is_live k (a ++ x ∷ []) ≡ false → is_live k (a ++ x2 ∷ []) ≡ false = λ k h. live_texted k a x [] text parts ∙ h in
        let y_dead = subst (λ k. is_live k (a ++ x2 ∷ []) ≡ false) is_second (texted y.number (numbered_dead (a ++ x ∷ []) y (middle ++ rest) numbered)) in
        let u = split_at second (a ++ x2 ∷ []) y (middle ++ rest) y_dead is_second in
        let in_run : is_live last (y ∷ middle) ≡ true = subst (λ t. is_live last t ≡ true) e j.inside in
        let in_all : is_live last (y ∷ (middle ++ rest)) ≡ true = live_left last (y ∷ middle) rest in_run in
        let last_dead : is_live last (a ++ x ∷ []) ≡ false =
        false_from_ne_true (is_live last (a ++ x ∷ [])) (λ h. both_ways (is_live last (y ∷ (middle ++ rest))) (numbered_apart (a ++ x ∷ []) (y ∷ (middle ++ rest)) numbered last h) in_all) in
        record {
          before = ap (nodes_before second) split ∙ u.before;
          after = ap (nodes_after last) split ∙ after_append last (a ++ x2 ∷ []) (y ∷ (middle ++ rest)) (texted last last_dead)
              ∙ sym (after_append last (a ++ x ∷ []) (y ∷ (middle ++ rest)) last_dead) ∙ ap (nodes_after last) (sym old_split);
          second_live = subst (λ t. is_live second t ≡ true) (sym split) (live_right second (a ++ x2 ∷ []) (y ∷ (middle ++ rest)) (or_left _ _ (eq-eqb y.number second is_second)));
          last_live = subst (λ t. is_live last t ≡ true) (sym split) (live_right last (a ++ x2 ∷ []) (y ∷ (middle ++ rest)) in_all);
          order = subst (λ t. is_live last t ≡ true) (sym (ap (nodes_from second) split ∙ u.from)) in_all;
        }

pub none_and : (b c : Bool) → c ≡ false → (b && c) ≡ false
none_and true c h = h
none_and false c h = refl

pub sweeps_run : (nodes mid new : List TokenNode) (n last second : ℕ) (text parts : List ℕ) (next : Option ℕ) → IsNumbered nodes → is_live n nodes ≡ true → (r : IsRun nodes n text parts last) → SetsText n text parts nodes mid
    → Some second ≡ first_of (nodes_after n nodes) → new ≡ spliced second last [] mid → next ≡ first_of (nodes_after last mid) → (t : IsStaying nodes n) → is_string t.node.token.kind ≡ true → Sweeps nodes new n next
unfolding Sweeps
sweeps_run nodes mid new n last second text parts next num live r sets is_second w f t str = λ all p d s.
    let h = swept_here all nodes n d s in
    let j = r.0 in
    let o = run_out nodes mid n last second text parts num live j sets is_second in
    let done = all_joined_to_end [] (staying_nodes Plain s.front) in
    let x = j.node in
    let x2 = with_text x text parts in
    let rest = nodes_after last nodes in
    let ss = j.second ∷ j.others in
    let same : t.node ≡ x = (cons_same (sym t.here ∙ j.here)).0 in
    let stays : node_stays Plain x ≡ true = subst (λ y. node_stays Plain y ≡ true) same t.stays in
    let string : is_string x.token.kind ≡ true = subst (λ y. is_string y.token.kind ≡ true) same str in
    let e : s.rest ≡ (x ∷ j.middle) ++ rest = sym h.from ∙ j.here ∙ ap (λ u. x ∷ u) j.whole in
    let joins : joined_all x ss ≡ x2 = sym (text_of x j.second j.others) ∙ sym (ap₂ (with_text x) j.text_is j.parts_are) in
    let kept : all_joined_to_end done (staying_nodes Plain (x ∷ j.middle)) ≡ done ++ x2 ∷ [] =
    ap (all_joined_to_end done) (first_kept x j.middle stays ∙ ap (λ u. x ∷ u) j.stay)
    ∙ put_all_cons done x ss ∙ ap (λ u. all_joined_to_end u ss) (put_here all nodes n s x (j.middle ++ rest) e stays) ∙ put_strings done x ss string j.strings ∙ ap (λ y. done ++ y ∷ []) joins in
    let some : 0 < length (x ∷ j.middle) = omega arith in
    let plain : IsPlainAt (state_after_all Plain (x ∷ j.middle)) rest = subst (λ u. IsPlainAt u rest) (sym (state_first x j.middle stays)) j.plain in
    let is : new ≡ (done ++ x2 ∷ []) ++ rest =
    w ∙ ap₂ (λ u v. with_live_partners (u ++ v)) (o.before ∙ ap (λ u. u ++ x2 ∷ []) h.before) o.after
    ∙ settled_front all nodes n s (x ∷ j.middle) rest (done ++ x2 ∷ []) p d e some plain kept in
    extend all nodes new n next s (x ∷ j.middle) rest (done ++ x2 ∷ []) e some plain kept is (none_and (ends_string (done ++ x2 ∷ [])) _ r.1) (f ∙ ap first_of o.after)
  where
    put_all_cons : (made : List TokenNode) (x : TokenNode) (xs : List TokenNode) → all_joined_to_end made (x ∷ xs) ≡ all_joined_to_end (joined_to_end made x) xs
    put_all_cons made x xs = put_all_append made (x ∷ []) xs ∙ ap (λ t. all_joined_to_end t xs) (put_all_one made x)

    state_first : (x : TokenNode) (xs : List TokenNode) → node_stays Plain x ≡ true → state_after_all Plain (x ∷ xs) ≡ state_after_all Plain xs
    state_first x xs k = state_append Plain (x ∷ []) xs ∙ ap (λ s. state_after_all s xs) (one_state x k)

pub sweeps_on : (all old new : List TokenNode) (n : ℕ) (next : Option ℕ) → Sweeps old new n next → IsPaired all → IsNumbered all → (s : IsSwept all old (Some n)) → SweepsOn all old new n next s
unfolding Sweeps
sweeps_on all old new n next h p d s = h all p d s

pub sweeps_less : (all old new : List TokenNode) (n : ℕ) (at next : Option ℕ) → at ≡ Some n → Sweeps old new n next → IsPaired all → IsNumbered all → IsSwept all old at → length (rest_from next new) < length (rest_from at old)
sweeps_less all old new n at next e h p d s =
    let k = subst (IsSwept all old) e s in
    let r = sweeps_on all old new n next h p d k in
    let a = ap length (swept_rest all new next d r.swept) in
    let b = ap (λ o. length (rest_from o old)) e ∙ ap length (swept_rest all old (Some n) d k) in
    let c = r.shorter in omega (arith, a, b, c)
