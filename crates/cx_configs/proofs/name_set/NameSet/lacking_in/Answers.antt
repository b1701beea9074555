use Rattle.std.proofs.Common.{◌≡◌, [], ◌∷◌, ◌++◌, true, false, ap, sym, ◌∙◌, map, rules}
use Rattle.std.proofs.lemmas.List.{map-append}
use Rattle.std.proofs.lemmas.Map.Iter.{iter_end}
use Rattle.cx_configs.specs.Shapes.Sets.{holds, lacking, with_all}
use Rattle.cx_configs.proofs.HoldLaws.{lacking_held, lacking_more, seen_ascend, seen_twice, with_lacking}
use Rattle.cx_configs.proofs.name_set.NameSet.lacking_in.Goals as goal

pub loop-name-preserved : goal.loop-name-preserved
loop-name-preserved c =
    let set = map (λ n. n.now) c.args.tree.now.keys in
    let is_new : holds set c.in-Some.name.now.now ≡ false = search rules in
    ap (map (λ n. n.now)) c.in_ok-push.ensures.items
    ∙ map-append (λ n. n.now) c.loop-name.names.items (c.in-Some.name.now ∷ [])
    ∙ ap (λ names. names ++ c.in-Some.name.now.now ∷ []) c.loop-name.invariant
    ∙ sym (lacking_more (λ k. k.now.now) set c.loop-name.yielded c.in-Some.name is_new)

pub loop-name-preserved-then-holds : goal.loop-name-preserved-then-holds
loop-name-preserved-then-holds c =
    let set = map (λ n. n.now) c.args.tree.now.keys in
    let held : holds set c.in-Some.name.now.now ≡ true = search rules in
    c.loop-name.invariant ∙ sym (lacking_held (λ k. k.now.now) set c.loop-name.yielded c.in-Some.name held)

pub returns : goal.returns
returns c =
    let set = map (λ n. n.now) c.args.tree.now.keys in
    let all : map (λ k. k.now) c.loop-name.yielded ≡ c.self.inside.names.keys = search (rules, iter_end) in
    let are : map (λ n. n.now) c.loop-name.names.items ≡ lacking set c.args.self.now =
    c.loop-name.invariant
    ∙ ap (lacking set) (seen_twice c.loop-name.yielded ∙ ap (map (λ n. n.now)) all ∙ c.self.view_is) in
    record {
      names = are;
      enough = ap (with_all set) are ∙ with_lacking set c.args.self.now (seen_ascend (λ n. n.now) c.args.tree.now.keys c.len.ensures.ordered);
    }
