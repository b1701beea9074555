use Rattle.std.proofs.Common.{◌≡◌, ◌++◌, [], ◌∷◌, ap, sym, ◌∙◌, subst, rules, map}
use Rattle.std.specs.Prelude.{if◌then◌else◌}
use Rattle.std.specs.Str.{IsUtf8}
use Rattle.cx_base.specs.Simple.{is_rooted, simple_path}
use Rattle.cx_shelf.specs.Searches.{folder_part, in_folder}
use Rattle.cx_asking.proofs.CandidateLaws.{none_tried, relative_tried, rooted_tried}
use Rattle.cx_asking.proofs.candidates.tried.Goals as goal

pub returns-in_default : goal.returns-in_default
returns-in_default c =
    c.new-paths.ensures.items
    ∙ none_tried c.args.folders.now c.args.includer.now c.args.include.now
    (λ (u : IsUtf8 c.args.include.now.name). c.in_default.ensures.cases.0 (subst IsUtf8 (sym c.as_slice.ensures) u))

pub returns-then-starts_with : goal.returns-then-starts_with
returns-then-starts_with c =
    let is : c.starts_with.result ≡ is_rooted c.in-Ok.name.now = search rules in
    let name : c.in-Ok.name.now ≡ c.args.include.now.name = c.in-Ok.ensures.cases.0 ∙ c.as_slice.ensures in
    rooted_tried c.args.folders.now c.args.includer.now c.args.include.now c.push.new.self.items
    (subst IsUtf8 c.as_slice.ensures c.in-Ok.ensures.cases.1)
    (ap is_rooted (sym name) ∙ sym is ∙ c.if-starts_with.true)
    (c.in_ok-push.ensures.items ∙ ap (λ ps. ps ++ c.in_ok-simple_of.field-0 ∷ []) c.new-paths.ensures.items
    ∙ ap (λ p. p ∷ []) (c.in_ok-simple_of.ensures ∙ ap simple_path name))

pub returns : goal.returns
returns c =
    let is : c.starts_with.result ≡ is_rooted c.in-Ok.name.now = search rules in
    let name : c.in-Ok.name.now ≡ c.args.include.now.name = c.in-Ok.ensures.cases.0 ∙ c.as_slice.ensures in
    relative_tried c.args.folders.now c.args.includer.now c.args.include.now c.push_own.new.paths.items c.push_in_folders.new.paths.items
    (subst IsUtf8 c.as_slice.ensures c.in-Ok.ensures.cases.1)
    (ap is_rooted (sym name) ∙ sym is ∙ c.if-starts_with.false)
    (c.in_ok-push_own.ensures
    ∙ ap (λ ps. ps ++ (if c.args.include.now.quoted then simple_path (folder_part c.as_str.result.now ++ c.in-Ok.name.now) ∷ [] else [])) c.new-paths.ensures.items
    ∙ ap (λ folder. if c.args.include.now.quoted then simple_path (folder_part folder ++ c.in-Ok.name.now) ∷ [] else []) c.as_str.ensures
    ∙ ap (λ name. if c.args.include.now.quoted then simple_path (folder_part c.args.includer.now ++ name) ∷ [] else []) name)
    (c.in_ok-push_in_folders.ensures
    ∙ ap (λ name. c.push_own.new.paths.items ++ map (λ folder. simple_path (in_folder folder name)) c.args.folders.now) name)
