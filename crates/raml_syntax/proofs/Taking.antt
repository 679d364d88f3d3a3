-- What a reader of tokens shows after a call.
use Rattle.std.proofs.Common.{◌≡◌, ℕ, false, List, [], ◌++◌, refl, sym, ap, ◌∙◌, append_assoc}
use Rattle.raml_lex.specs.declared.token.Token.{Token}
use Rattle.raml_lex.specs.Gaps.{gap_of}
use Rattle.raml_lex.specs.Places.{place_after}
use Rattle.raml_lex.specs.declared.token.TokenKind.{TokenKind}
use Rattle.raml_lex.specs.declared.token.TokenKind.TheVariants as kind
use Rattle.raml_lex.specs.Lexers.{Lexer, next_place, Found, Ended}
use Rattle.raml_lex.specs.Views.{tok_of}
use Rattle.raml_syntax.specs.Leaves.{IsReady, TakesAt, IsMark}

pub takes_found : (old new : Lexer) (t : Token) → Found old t new → TakesAt (tok_of t.kind t.text.now) t.place old new
takes_found old new t f = record {
  takes = record {
    no_fault = f.no_fault;
    step = f.step;
    passed = gap_of false old.rest ++ t.text.now;
    rest = f.text ∙ sym (append_assoc (gap_of false old.rest) t.text.now new.rest);
    before = f.before;
    greatest = f.greatest;
    still_none = f.still_none;
  };
  place = f.place;
}

pub ready_found : (old new : Lexer) (t : Token) → IsReady old → Found old t new → IsReady new
ready_found old new t r f = record { no_fault = f.still_none }

-- where nothing is left, the place after all bytes is that of what stands next
pub place_ended : (old new : Lexer) → Ended old new → place_after new.before ≡ next_place old
place_ended old new e = ap (λ x. place_after x.before) e.after ∙ ap (λ l. place_after (old.before ++ l)) (sym e.all)

-- a mark has no text of its own
pub mark_text : (k : TokenKind) (text : List ℕ) → IsMark k → tok_of k text ≡ tok_of k []
mark_text kind.Word text m = absurd m
mark_text (kind.Number n) text m = absurd m
mark_text _ text m = refl
