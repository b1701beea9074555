-- Edits keep token lists, and part the nodes that they take away from their partners.
use Rattle.std.proofs.Common.{◌≡◌, ℕ, List, [], ◌∷◌, ◌++◌, Option, Some, None, Bool, true, false, ◌||◌, refl, sym, ap, ap₂, ◌∙◌, subst, append_assoc, ⊎_elim, cond, map, ◌==◌, if◌then◌else◌}
use Rattle.std.specs.List.{AllByRecursion, IsDistinct, list_any}
use Rattle.std.proofs.lemmas.Bool.{cond-true, cond-false, cases_Bool, or_left, eq-eqb, false_from_ne_true}
use Rattle.cx_tokens.specs.Nodes.{IsTokenList, TokenNode, is_live, live_partner, node_of, partner_in, partner_of, with_live_partners}
use Rattle.cx_tokens.proofs.NodeLaws.{IsNumbered, numbered_none, dead_both, dead_parts, live_cases, live_left, live_right, node_left, node_right, numbered_append, numbered_apart, numbered_left, numbered_right, partner_live}

-- ---- partners taken away

-- a partner, unless it is one of these
unfoldable pub partner_unless : List ℕ → Option ℕ → Option ℕ
partner_unless gone None = None
partner_unless gone (Some n) = if list_any (λ g. g == n) gone then None else Some n

unfoldable pub without_partner : List ℕ → TokenNode → TokenNode
without_partner gone x =
    record { number = x.number; token = x.token; partner = partner_unless gone x.partner }

-- nodes of which none has a partner among these
unfoldable pub without_partners : List ℕ → List TokenNode → List TokenNode
without_partners gone nodes = map (without_partner gone) nodes

-- ---- settled lists

abbrev settled_in : List TokenNode → List TokenNode → List TokenNode
settled_in all nodes = map (λ x. record { number = x.number; token = x.token; partner = live_partner all x.partner }) nodes

live_settled_in : (all xs : List TokenNode) (n : ℕ) → is_live n (settled_in all xs) ≡ is_live n xs
live_settled_in all [] n = refl
live_settled_in all (x ∷ xs) n = ap (λ t. (x.number == n) || t) (live_settled_in all xs n)

pub live_settled : (xs : List TokenNode) (n : ℕ) → is_live n (with_live_partners xs) ≡ is_live n xs
unfolding with_live_partners
live_settled xs n = live_settled_in xs xs n

numbers_settled_in : (all xs : List TokenNode) → map (λ x. x.number) (settled_in all xs) ≡ map (λ x. x.number) xs
numbers_settled_in all [] = refl
numbers_settled_in all (x ∷ xs) = ap (λ t. x.number ∷ t) (numbers_settled_in all xs)

pub numbers_settled : (xs : List TokenNode) → map (λ x. x.number) (with_live_partners xs) ≡ map (λ x. x.number) xs
unfolding with_live_partners
numbers_settled xs = numbers_settled_in xs xs

partner_settled_in : (all xs : List TokenNode) (n : ℕ) → partner_of n (settled_in all xs) ≡ live_partner all (partner_of n xs)
partner_settled_in all [] n = refl
partner_settled_in all (x ∷ xs) n =
    elim (x.number == n)
    as (λ t. partner_in (cond t (Some (record { number = x.number; token = x.token; partner = live_partner all x.partner })) (node_of n (settled_in all xs))) ≡ live_partner all (partner_in (cond t (Some x) (node_of n xs))))
    [ true ↦ refl | false ↦ partner_settled_in all xs n ]

partner_settled : (xs : List TokenNode) (n : ℕ) → partner_of n (with_live_partners xs) ≡ live_partner xs (partner_of n xs)
unfolding with_live_partners
partner_settled xs n = partner_settled_in xs xs n

live_partner_parts : (all : List TokenNode) (o : Option ℕ) (m : ℕ) → live_partner all o ≡ Some m → (o ≡ Some m) × (is_live m all ≡ true)
live_partner_parts all None m h = absurd cc
live_partner_parts all (Some k) m h =
    ⊎_elim
    (λ (e : is_live k all ≡ true). let f = cond-true (is_live k all) (Some k) None e in let g : k ≡ m = cc in (cc, subst (λ t. is_live t all ≡ true) g e))
    (λ (e : is_live k all ≡ false). absurd (let f = cond-false (is_live k all) (Some k) None e in cc))
    (cases_Bool (is_live k all))

live_partner_live : (all : List TokenNode) (m : ℕ) → is_live m all ≡ true → live_partner all (Some m) ≡ Some m
live_partner_live all m h = cond-true (is_live m all) (Some m) None h

-- ---- a list that partners_kept nodes of another, with others that have no partner

pub record Keeps (nodes rest : List TokenNode) : Type 0 where
  pub numbered : IsNumbered rest
  pub same : (n : ℕ) → is_live n rest ≡ true → is_live n nodes ≡ true → node_of n rest ≡ node_of n nodes
  pub alone : (n : ℕ) → is_live n rest ≡ true → is_live n nodes ≡ false → partner_of n rest ≡ None

settled_mutual : (nodes rest : List TokenNode) → IsTokenList nodes → Keeps nodes rest → (n m : ℕ) → partner_of n (with_live_partners rest) ≡ Some m → partner_of m (with_live_partners rest) ≡ Some n
settled_mutual nodes rest l k n m e =
    let p = live_partner_parts rest (partner_of n rest) m (sym (partner_settled rest n) ∙ e) in
    let r : is_live n rest ≡ true = partner_live n m rest p.0 in
    ⊎_elim
    (λ (live : is_live n nodes ≡ true).
    let b = l.mutual_partners n m (sym (ap partner_in (k.same n r live)) ∙ p.0) in
    let c = k.same m p.1 (partner_live m n nodes b) in
    partner_settled rest m ∙ ap (live_partner rest) (ap partner_in c ∙ b) ∙ live_partner_live rest n r)
    (λ (dead : is_live n nodes ≡ false). absurd (let a = k.alone n r dead in let q = p.0 in cc))
    (cases_Bool (is_live n nodes))

pub settled_list : (nodes rest : List TokenNode) → IsTokenList nodes → Keeps nodes rest → IsTokenList (with_live_partners rest)
settled_list nodes rest l k = record {
  distinct = subst (λ t. IsDistinct (λ a b. a == b) t) (sym (numbers_settled rest)) k.numbered;
  mutual_partners = settled_mutual nodes rest l k;
}

-- ---- new nodes in the place of a run

pub record IsFresh (news nodes : List TokenNode) : Type 0 where
  pub numbered : IsNumbered news
  pub alone : AllByRecursion (λ x. x.partner ≡ None) news
  pub fresh : (n : ℕ) → is_live n news ≡ true → is_live n nodes ≡ false

alone_partner : (n : ℕ) (news : List TokenNode) → AllByRecursion (λ x. x.partner ≡ None) news → partner_of n news ≡ None
alone_partner n [] h = refl
alone_partner n (x ∷ xs) h =
    elim (x.number == n) as (λ t. partner_in (cond t (Some x) (node_of n xs)) ≡ None) [ true ↦ h.0 | false ↦ alone_partner n xs h.1 ]

not_both : {b : Bool} → b ≡ true → b ≡ false → ⊥
not_both h k = cc

pub kept_numbered : (front run back news : List TokenNode) → IsNumbered (front ++ (run ++ back)) → IsFresh news (front ++ (run ++ back)) → IsNumbered (front ++ (news ++ back))
kept_numbered front run back news d f =
    numbered_append front (news ++ back) (numbered_left front (run ++ back) d)
    (numbered_append news back f.numbered (numbered_right run back (numbered_right front (run ++ back) d))
    (λ n l. (dead_parts n run back (dead_parts n front (run ++ back) (f.fresh n l)).1).1))
    (λ n l. dead_both n news back
    (false_from_ne_true (is_live n news) (λ e. not_both (live_left n front (run ++ back) l) (f.fresh n e)))
    (dead_parts n run back (numbered_apart front (run ++ back) d n l)).1)

kept_same : (front run back news : List TokenNode) → IsNumbered (front ++ (run ++ back)) → IsFresh news (front ++ (run ++ back))
    → (n : ℕ) → is_live n (front ++ (news ++ back)) ≡ true → is_live n (front ++ (run ++ back)) ≡ true
    → node_of n (front ++ (news ++ back)) ≡ node_of n (front ++ (run ++ back))
kept_same front run back news d f n r l =
    ⊎_elim
    (λ (a : is_live n front ≡ true). node_left n front (news ++ back) a ∙ sym (node_left n front (run ++ back) a))
    (λ (a : is_live n front ≡ false).
    let no_news : is_live n news ≡ false = false_from_ne_true (is_live n news) (λ e. not_both l (f.fresh n e)) in
    let in_back : is_live n back ≡ true = ⊎_elim
    (λ (e : is_live n front ≡ true). absurd (not_both e a))
    (λ (e : is_live n (news ++ back) ≡ true). ⊎_elim (λ (g : is_live n news ≡ true). absurd (not_both g no_news)) (λ (g : is_live n back ≡ true). g) (live_cases n news back e))
    (live_cases n front (news ++ back) r) in
    let no_run : is_live n run ≡ false = false_from_ne_true (is_live n run) (λ e. not_both in_back (numbered_apart run back (numbered_right front (run ++ back) d) n e)) in
    node_right n front (news ++ back) a ∙ node_right n news back no_news ∙ sym (node_right n front (run ++ back) a ∙ node_right n run back no_run))
    (cases_Bool (is_live n front))

kept_alone : (front run back news : List TokenNode) → IsFresh news (front ++ (run ++ back))
    → (n : ℕ) → is_live n (front ++ (news ++ back)) ≡ true → is_live n (front ++ (run ++ back)) ≡ false → partner_of n (front ++ (news ++ back)) ≡ None
kept_alone front run back news f n r l =
    let p = dead_parts n front (run ++ back) l in
    let q = dead_parts n run back p.1 in
    let there : is_live n news ≡ true = ⊎_elim
    (λ (e : is_live n front ≡ true). absurd (not_both e p.0))
    (λ (e : is_live n (news ++ back) ≡ true). ⊎_elim (λ (g : is_live n news ≡ true). g) (λ (g : is_live n back ≡ true). absurd (not_both g q.1)) (live_cases n news back e))
    (live_cases n front (news ++ back) r) in
    ap partner_in (node_right n front (news ++ back) p.0 ∙ node_left n news back there) ∙ alone_partner n news f.alone

pub partners_kept : (front run back news : List TokenNode) → IsNumbered (front ++ (run ++ back)) → IsFresh news (front ++ (run ++ back)) → Keeps (front ++ (run ++ back)) (front ++ (news ++ back))
partners_kept front run back news d f = record {
  numbered = kept_numbered front run back news d f;
  same = kept_same front run back news d f;
  alone = kept_alone front run back news f;
}

-- ---- which partners are gone

abbrev IsMate : List TokenNode → Option ℕ → Type 0
IsMate nodes None = Unit {0}
IsMate nodes (Some m) = is_live m nodes ≡ true

mate_from : (nodes : List TokenNode) (o : Option ℕ) → ((m : ℕ) → o ≡ Some m → is_live m nodes ≡ true) → IsMate nodes o
mate_from nodes None h = tt
mate_from nodes (Some m) h = h m refl

abbrev AreMates : List TokenNode → List TokenNode → Type 0
AreMates nodes xs = AllByRecursion (λ x. IsMate nodes x.partner) xs

-- the node that stands behind some
pub node_at : (front : List TokenNode) (x : TokenNode) (xs : List TokenNode) → IsNumbered (front ++ x ∷ xs) → node_of x.number (front ++ x ∷ xs) ≡ Some x
node_at front x xs d =
    let here : (x.number == x.number) ≡ true = eq-eqb x.number x.number refl in
    let dead : is_live x.number front ≡ false = false_from_ne_true (is_live x.number front)
    (λ e. not_both (or_left _ _ here) (numbered_apart front (x ∷ xs) d x.number e)) in
    node_right x.number front (x ∷ xs) dead ∙ cond-true (x.number == x.number) (Some x) (node_of x.number xs) here

mates_behind : (front xs : List TokenNode) → IsTokenList (front ++ xs) → AreMates (front ++ xs) xs
mates_behind front [] l = tt
mates_behind front (x ∷ xs) l = (
  mate_from (front ++ x ∷ xs) x.partner
      (λ m e. partner_live m x.number (front ++ x ∷ xs) (l.mutual_partners x.number m (ap partner_in (node_at front x xs l.distinct) ∙ e))),
  let q = append_assoc front (x ∷ []) xs in subst (λ t. AreMates t xs) q (mates_behind (front ++ x ∷ []) xs (subst IsTokenList (sym q) l)),
)

mates_left : (nodes a b : List TokenNode) → AreMates nodes (a ++ b) → AreMates nodes a
mates_left nodes [] b h = tt
mates_left nodes (x ∷ a) b h = (h.0, mates_left nodes a b h.1)

mates_right : (nodes a b : List TokenNode) → AreMates nodes (a ++ b) → AreMates nodes b
mates_right nodes [] b h = h
mates_right nodes (x ∷ a) b h = mates_right nodes a b h.1

mates_both : (nodes a b : List TokenNode) → AreMates nodes a → AreMates nodes b → AreMates nodes (a ++ b)
mates_both nodes [] b h k = k
mates_both nodes (x ∷ a) b h k = (h.0, mates_both nodes a b h.1 k)

alone_mates : (nodes news : List TokenNode) → AllByRecursion (λ x. x.partner ≡ None) news → AreMates nodes news
alone_mates nodes [] h = tt
alone_mates nodes (x ∷ xs) h = (subst (IsMate nodes) (sym h.0) tt, alone_mates nodes xs h.1)

pub gone_live : (run : List TokenNode) (m : ℕ) → list_any (λ g. g == m) (map (λ x. x.number) run) ≡ is_live m run
gone_live [] m = refl
gone_live (x ∷ xs) m = ap (λ t. (x.number == m) || t) (gone_live xs m)

mate_parted : (front run back news : List TokenNode) → IsNumbered (front ++ (run ++ back)) → IsFresh news (front ++ (run ++ back)) → (o : Option ℕ) → IsMate (front ++ (run ++ back)) o
    → live_partner (front ++ (news ++ back)) o ≡ partner_unless (map (λ x. x.number) run) o
unfolding partner_unless
mate_parted front run back news d f None h = refl
mate_parted front run back news d f (Some m) h =
    let no_news : is_live m news ≡ false = false_from_ne_true (is_live m news) (λ e. not_both h (f.fresh m e)) in
    ⊎_elim
    (λ (e : is_live m run ≡ true).
    let no_front : is_live m front ≡ false = false_from_ne_true (is_live m front) (λ g. not_both (live_left m run back e) (numbered_apart front (run ++ back) d m g)) in
    let no_back : is_live m back ≡ false = numbered_apart run back (numbered_right front (run ++ back) d) m e in
    cond-false (is_live m (front ++ (news ++ back))) (Some m) None (dead_both m front (news ++ back) no_front (dead_both m news back no_news no_back))
    ∙ sym (cond-true (list_any (λ g. g == m) (map (λ x. x.number) run)) None (Some m) (gone_live run m ∙ e)))
    (λ (e : is_live m run ≡ false).
    let still : is_live m (front ++ (news ++ back)) ≡ true = ⊎_elim
    (λ (g : is_live m front ≡ true). live_left m front (news ++ back) g)
    (λ (g : is_live m (run ++ back) ≡ true). ⊎_elim
    (λ (i : is_live m run ≡ true). absurd (not_both i e))
    (λ (i : is_live m back ≡ true). live_right m front (news ++ back) (live_right m news back i))
    (live_cases m run back g))
    (live_cases m front (run ++ back) h) in
    cond-true (is_live m (front ++ (news ++ back))) (Some m) None still
    ∙ sym (cond-false (list_any (λ g. g == m) (map (λ x. x.number) run)) None (Some m) (gone_live run m ∙ e)))
    (cases_Bool (is_live m run))

parted_each : (nodes all xs : List TokenNode) (gone : List ℕ) → ((o : Option ℕ) → IsMate nodes o → live_partner all o ≡ partner_unless gone o) → AreMates nodes xs
    → settled_in all xs ≡ without_partners gone xs
unfolding without_partners without_partner
parted_each nodes all [] gone f h = refl
parted_each nodes all (x ∷ xs) gone f h =
    ap₂ (λ p t. record { number = x.number; token = x.token; partner = p } ∷ t) (f x.partner h.0) (parted_each nodes all xs gone f h.1)

pub settled_parted : (front run back news : List TokenNode) → IsTokenList (front ++ (run ++ back)) → IsFresh news (front ++ (run ++ back))
    → with_live_partners (front ++ (news ++ back)) ≡ without_partners (map (λ x. x.number) run) (front ++ (news ++ back))
unfolding with_live_partners
settled_parted front run back news l f =
    let nodes = front ++ (run ++ back) in
    let m = mates_behind [] nodes l in
    parted_each nodes (front ++ (news ++ back)) (front ++ (news ++ back)) (map (λ x. x.number) run) (mate_parted front run back news l.distinct f)
    (mates_both nodes front (news ++ back) (mates_left nodes front (run ++ back) m)
    (mates_both nodes news back (alone_mates nodes news f.alone) (mates_right nodes run back (mates_right nodes front (run ++ back) m))))

none_without : (o : Option ℕ) → partner_unless [] o ≡ o
unfolding partner_unless
none_without None = refl
none_without (Some m) = refl

pub none_parted : (xs : List TokenNode) → without_partners [] xs ≡ xs
unfolding without_partners without_partner
none_parted [] = refl
none_parted (x ∷ xs) = ap₂ (λ p t. record { number = x.number; token = x.token; partner = p } ∷ t) (none_without x.partner) (none_parted xs)

-- ---- nodes that are all kept

pub same_settled : (front back news : List TokenNode) → IsTokenList (front ++ back) → IsFresh news (front ++ back) → with_live_partners (front ++ (news ++ back)) ≡ front ++ (news ++ back)
same_settled front back news l f = settled_parted front [] back news l f ∙ none_parted (front ++ (news ++ back))

pub fresh_none : (nodes : List TokenNode) → IsFresh [] nodes
fresh_none nodes = record { numbered = numbered_none; alone = tt; fresh = λ n l. absurd cc }
