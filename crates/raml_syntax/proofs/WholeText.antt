-- What was read of a text, and of what stands after it, says what the text means or which fault it has.
use Rattle.std.proofs.Common.{◌≡◌, inr, ℕ, List, Ok, ◌∙◌, sym, ap, subst}
use Rattle.raml_lex.specs.Tokens.{end, step_of}
use Rattle.raml_lex.specs.Lexers.{Lexer}
use Rattle.alg_model.specs.Expressions.{PureAlg}
use Rattle.raml_syntax.specs.declared.faults.AlgError.{AlgError}
use Rattle.raml_syntax.specs.declared.faults.AlgError.TheVariants.{Bad, NoMemory}
use Rattle.raml_syntax.specs.Leaves.{IsRefusal}
use Rattle.raml_syntax.specs.ExprText.{ExprText, Trails}
use Rattle.raml_syntax.specs.Statements.{IsAlgError}
use Rattle.raml_syntax.specs.Headers.{ReadsText}

-- a file was read, and nothing stands after it
pub text_read : (text : List ℕ) (a : PureAlg) (at : Lexer) → ReadsText text (Ok a) at → step_of at.greatest at.rest ≡ end → ExprText text a
text_read text a at x e = record {
  tokens = x.0;
  file = x.1;
  rest = at.rest;
  lexed = x.2.lexed;
  ended = ap (λ g. step_of g at.rest) (sym x.2.greatest) ∙ e;
}

-- a file was read, and something stands after it
pub text_trailed : (text : List ℕ) (a : PureAlg) (e : AlgError) (at : Lexer) → ReadsText text (Ok a) at → IsRefusal Trails at e → IsAlgError text e
text_trailed text a (Bad f) at x r = record {
  front = x.0;
  passed = at.before;
  rest = at.rest;
  split = x.2.split;
  lexed = x.2.lexed;
  place = r.0;
  shows = inr ((a, x.1), subst (λ g. Trails (step_of g at.rest) f.kind) x.2.greatest r.1);
}
text_trailed text a NoMemory at x r = tt
