-- What stands before the next element, as the code computes it: joined to `after_element` of
-- Elements by the laws `onward_separator`, `onward_comment` and `onward_piece` of proofs/Onward.
use Rattle.std.specs.Prelude.{ℕ, List, Bool, true, false, ◌||◌, if◌then◌else◌}
use Rattle.cx_tokens.specs.declared.token.Kind.{Kind}
use Rattle.cx_tokens.specs.Digraphs.{plain_text}
use Rattle.cx_lex.specs.declared.before.Before.{Before}
use Rattle.cx_lex.specs.declared.before.Directive.TheVariants.{Nothing}
use Rattle.cx_lex.specs.Elements.{directive_after}

abbrev pub after_separator : Before → Bool → Before
after_separator before newline = record {
  space = true;
  first_on_line = before.first_on_line || newline;
  directive = if newline then Nothing else before.directive;
}

abbrev pub after_comment : Before → Before
after_comment before = record {
  space = true;
  first_on_line = before.first_on_line;
  directive = before.directive;
}

-- after a piece of this kind and spelling
abbrev pub after_piece : Before → Kind → List ℕ → Before
after_piece before kind spelled = record {
  space = false;
  first_on_line = false;
  directive = directive_after before.directive kind (plain_text kind spelled);
}
