use Rattle.std.proofs.Common.{◌≡◌, ℕ, List, ◌++◌, append_assoc, codes}
use Rattle.cx_finding.specs.Texts.{word_at}
use Rattle.cx_finding.proofs.message.push_limit.Goals as goal

-- seven texts, added one after another
added : (l a b c d e f g l1 l2 l3 l4 l5 l6 l7 : List ℕ) → l1 ≡ l ++ a → l2 ≡ l1 ++ b → l3 ≡ l2 ++ c → l4 ≡ l3 ++ d
    → l5 ≡ l4 ++ e → l6 ≡ l5 ++ f → l7 ≡ l6 ++ g → l7 ≡ l ++ (a ++ b ++ c ++ d ++ e ++ f ++ g)
added l a b c d e f g l1 l2 l3 l4 l5 l6 l7 h1 h2 h3 h4 h5 h6 h7 = rw (h7, h6, h5, h4, h3, h2, h1) (simp append_assoc)

pub returns : goal.returns
returns c =
    added c.args.line.now (codes "Limit reached: ") (word_at c.args.words.now 0) (codes " ") (word_at c.args.words.now 1)
    (codes ", counted ") (word_at c.args.words.now 2) (codes ".") _ _ _ _ _ _ _ c.in_ok-push_all.ensures.ok
    c.in_ok-push_word_at.ensures c.in_ok-push_all-2.ensures.ok c.in_ok-push_word_at-2.ensures
    c.in_ok-push_all-3.ensures.ok c.in_ok-push_word_at-3.ensures c.in_ok-push_all-4.ensures.ok
