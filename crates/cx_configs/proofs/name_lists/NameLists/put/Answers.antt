use Rattle.std.proofs.Common.{sym, map, subst}
use Rattle.cx_configs.specs.Shapes.Found.{AreFound}
use Rattle.cx_configs.proofs.StepLaws.{found_by, put_found, put_kept, put_listed, put_lists, put_names}
use Rattle.cx_configs.proofs.name_lists.NameLists.put.Goals as goal

pub invariant_of-self-in_err-insert : goal.invariant_of-self-in_err-insert
invariant_of-self-in_err-insert c =
    put_kept c.self.inside.lists.keys c.insert_full.new.self.keys c.args.self.now c.into_tree.result c.args.names
    c.self.view_is c.into_tree.ensures c.in_ok-number.ensures.keys c.requires.given c.insert.new.self.entries
    (subst (λ entries. AreFound (map (λ k. map (λ n. n.now) k.keys) c.self.inside.lists.keys) (map found_by entries))
    (sym c.in_err-insert.ensures.err) c.self.invariant)

pub invariant_of-self-2 : goal.invariant_of-self-2
invariant_of-self-2 c =
    put_found c.self.inside.lists.keys c.insert_full.new.self.keys c.args.self.now c.into_tree.result c.args.names
    c.self.view_is c.into_tree.ensures c.in_ok-number.ensures.keys c.requires.given c.in_ok-number.number
    c.in_ok-number.ensures.stored.0 c.in_ok-number.ensures.stored.1 c.in_ok-number.ensures.stored.2
    c.args.step c.self.inside.found.entries c.insert.new.self.entries c.requires.around c.requires.names c.self.invariant
    c.in_ok-insert.ensures.entries

pub returns-clause-lists : goal.returns-clause-lists
returns-clause-lists c =
    put_lists c.self.inside.lists.keys c.insert_full.new.self.keys c.args.self.now c.into_tree.result c.args.names
    c.self.view_is c.into_tree.ensures c.in_ok-number.ensures.keys c.requires.given

pub returns-clause-listed : goal.returns-clause-listed
returns-clause-listed c =
    put_listed c.self.inside.lists.keys c.insert_full.new.self.keys c.args.self.now c.into_tree.result c.args.names
    c.self.view_is c.into_tree.ensures c.in_ok-number.ensures.keys c.requires.given c.in_ok-number.number
    c.in_ok-number.ensures.stored.0 c.in_ok-number.ensures.stored.1 c.in_ok-number.ensures.stored.2

pub returns-clause-names : goal.returns-clause-names
returns-clause-names c =
    put_names c.self.inside.lists.keys c.insert_full.new.self.keys c.args.self.now c.into_tree.result c.args.names
    c.self.view_is c.into_tree.ensures c.in_ok-number.ensures.keys c.requires.given c.in_ok-number.number
    c.in_ok-number.ensures.stored.0 c.in_ok-number.ensures.stored.1 c.in_ok-number.ensures.stored.2
