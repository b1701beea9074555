-- Simplifying one node more.
use Rattle.std.proofs.Common.{◌≡◌, List, [], ◌∷◌, ◌++◌, Bool, true, false, refl, ap, ◌∙◌, cond}
use Rattle.std.proofs.lemmas.Bool.{cond-true, cond-false}
use Rattle.cx_tokens.specs.Nodes.{TokenNode}
use Rattle.cx_tokens.specs.Shapes.Sweeping.{State, state_after, are_strings, state_at, joined_node, node_stays, staying_nodes, all_joined_to_end, joined_to_end, state_after_all}

-- ---- one node read in two ways

-- ---- one node put at the end

cond_cons : (b : Bool) (z : TokenNode) (p q : List TokenNode) → z ∷ cond b p q ≡ cond b (z ∷ p) (z ∷ q)
cond_cons true z p q = refl
cond_cons false z p q = refl

pub put_last : (d : List TokenNode) (y x : TokenNode) → joined_to_end (d ++ y ∷ []) x ≡ cond (are_strings y x) (d ++ joined_node y x ∷ []) (d ++ y ∷ x ∷ [])
unfolding joined_to_end
put_last [] y x = refl
put_last (z ∷ []) y x = cond_cons (are_strings y x) z (joined_node y x ∷ []) (y ∷ x ∷ [])
put_last (z ∷ w ∷ d) y x = ap (λ t. z ∷ t) (put_last (w ∷ d) y x) ∙ cond_cons (are_strings y x) z (w ∷ d ++ joined_node y x ∷ []) (w ∷ d ++ y ∷ x ∷ [])

-- ---- what stays

pub kept_append : (state : State) (a b : List TokenNode) → staying_nodes state (a ++ b) ≡ staying_nodes state a ++ staying_nodes (state_after_all state a) b
unfolding staying_nodes state_after_all
kept_append state [] b = refl
kept_append state (x ∷ a) b =
    let next = state_after (state_at state x) x in
    let h = kept_append next a b in
    elim (node_stays (state_at state x) x)
    as (λ t. cond t (x ∷ staying_nodes next (a ++ b)) (staying_nodes next (a ++ b)) ≡ cond t (x ∷ staying_nodes next a) (staying_nodes next a) ++ staying_nodes (state_after_all next a) b)
    [ true ↦ ap (λ t. x ∷ t) h | false ↦ h ]

pub state_append : (state : State) (a b : List TokenNode) → state_after_all state (a ++ b) ≡ state_after_all (state_after_all state a) b
unfolding state_after_all
state_append state [] b = refl
state_append state (x ∷ a) b = state_append (state_after (state_at state x) x) a b

pub kept_one : (state : State) (x : TokenNode) → node_stays (state_at state x) x ≡ true → staying_nodes state (x ∷ []) ≡ x ∷ []
unfolding staying_nodes
kept_one state x k = cond-true (node_stays (state_at state x) x) _ _ k

pub kept_none : (state : State) (x : TokenNode) → node_stays (state_at state x) x ≡ false → staying_nodes state (x ∷ []) ≡ []
unfolding staying_nodes
kept_none state x k = cond-false (node_stays (state_at state x) x) _ _ k

pub put_all_append : (made a b : List TokenNode) → all_joined_to_end made (a ++ b) ≡ all_joined_to_end (all_joined_to_end made a) b
unfolding all_joined_to_end
put_all_append made [] b = refl
put_all_append made (x ∷ a) b = put_all_append (joined_to_end made x) a b

pub put_all_one : (made : List TokenNode) (x : TokenNode) → all_joined_to_end made (x ∷ []) ≡ joined_to_end made x
unfolding all_joined_to_end
put_all_one made x = refl

pub put_all_none : (made : List TokenNode) → all_joined_to_end made [] ≡ made
unfolding all_joined_to_end
put_all_none made = refl
