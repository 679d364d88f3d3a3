use Rattle.std.proofs.Common.{map, sym, subst}
use Rattle.word_text.specs.Parts.{pure_part, AreThere}
use Rattle.word_text.proofs.form.ValueForm.push.Goals as goal

pub push_parts-requires : goal.push_parts-requires
push_parts-requires c = subst (λ parts. AreThere (map pure_part parts) c.args.words.now) (sym c.as_slice.ensures.value) c.requires
