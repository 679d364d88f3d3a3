use Rattle.std.proofs.Common.{◌≡◌, ◌++◌, length, map, drop}
use Rattle.std.specs.List.{AllByRecursion}
use Rattle.std.specs.Vec.Iter.{into_iter_items, into_iter_len}
use Rattle.alg_model.specs.Expressions.{PureCarrier}
use Rattle.code_gen.specs.Encoding.{decoded, IsEncoded}
use Rattle.word_tables.specs.Joined.{all_fixed_rows, AreAllFixed}
use Rattle.word_tables.specs.Tables.{word_rows, AreWordsOf}
use Rattle.word_tables.proofs.rows.tables_of.Given as goal

-- the tables so far, with the routes that are left, are all, and the routes are gone through one by one
abbrev pub invariant-loop-fixed : goal.invariant-loop-fixed
invariant-loop-fixed g l =
    let held = g.W.HeldRow.held in
    record {
      count : l.dest ≡ length l.yielded;
      so_far : (c : PureCarrier) → map (word_rows c) l.tables.items ++ all_fixed_rows (λ row. decoded c (held row)) (length l.yielded) (drop (length l.yielded) l.fn.found)
          ≡ all_fixed_rows (λ row. decoded c (held row)) 0 l.fn.found;
      words : (c : PureCarrier) → AreAllFixed (λ row. IsEncoded c (held row)) l.fn.found → AllByRecursion (AreWordsOf c) l.tables.items;
      items : into_iter_items l.initial.fixed-iterator ≡ l.fn.found;
      many : into_iter_len l.initial.fixed-iterator ≡ length l.fn.found;
    }
