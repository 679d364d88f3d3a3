use Rattle.std.proofs.Common.{arith, ◌≡◌, ◌<◌, ◌≤◌, ◌∷◌, ◌++◌, [], Ok, Err, length, take, get_or, length-append, refl, sym, ap, ap₂, ◌∙◌, ◌&&◌, not}
use Rattle.std.proofs.lemmas.List.{take_more}
use Rattle.std.proofs.lemmas.Result.{err_from_is_err_and}
use Rattle.raml_lex.specs.Tokens.{word}
use Rattle.raml_syntax.specs.declared.maps.AfterMap.TheVariants.{Map, After}
use Rattle.raml_syntax.specs.Maps.{after_map, sources, Target, MoreMaps, Maps}
use Rattle.raml_syntax.specs.Sequences.{One}
use Rattle.raml_syntax.specs.Syntax.{is_among}
use Rattle.raml_syntax.proofs.Tested.{reads_ok, reads_at}
use Rattle.raml_syntax.proofs.DistinctNames.{next_source}
use Rattle.raml_syntax.proofs.MapReading.{sources-append, pair_same, read_following, maps_no_word, maps_none, maps_none_bad, maps_first, maps_first_bad, more_no_mark, more_end, more_no_source, more_next, more_bad}
use Rattle.raml_syntax.proofs.Shorter.{takes_shorter, reads_no_longer, following_no_longer}
use Rattle.raml_syntax.proofs.maps.read_maps.Goals as goal

pub returns-in_err-first-clause-maps : goal.returns-in_err-first-clause-maps
returns-in_err-first-clause-maps c =
    let p = err_from_is_err_and c.from_residual.result c.from_residual.ensures.1 in
    rw (p.1, p.2) (maps_no_word c.args.names.now c.args.tokens.now c.take_word.new.tokens c.in_err-first.field-0.0 c.in_err-first.ensures.fault)

pub returns-in_err-take_after_row-clause-maps : goal.returns-in_err-take_after_row-clause-maps
returns-in_err-take_after_row-clause-maps c =
    let p = err_from_is_err_and c.from_residual-in_err-take_after_row.result c.from_residual-in_err-take_after_row.ensures.1 in
    rw (p.1, p.2)
    (maps_none_bad c.args.names.now c.in_ok-first.first.text.now c.args.tokens.now c.take_word.new.tokens c.take_after_row.new.tokens c.in_err-take_after_row.field-0.0
    (sym c.if-is_none.ensures) c.in_ok-first.ensures.word.takes c.in_err-take_after_row.ensures.mark)

pub returns-then-is_none-clause-maps : goal.returns-then-is_none-clause-maps
returns-then-is_none-clause-maps c =
    let after = c.in_ok-take_after_row.field-0 in
    let maps = c.new.result in
    reads_ok (Maps c.args.names.now) ([], after) (maps, after) c.args.tokens.now c.take_after_row.new.tokens (pair_same ([], after) (maps, after) (sym c.new.ensures) refl)
    (maps_none c.args.names.now c.in_ok-first.first.text.now c.args.tokens.now c.take_word.new.tokens c.take_after_row.new.tokens after
    (sym c.if-is_none.ensures) c.in_ok-first.ensures.word.takes c.in_ok-take_after_row.ensures.mark)

pub returns-in_err-read_map-clause-maps : goal.returns-in_err-read_map-clause-maps
returns-in_err-read_map-clause-maps c =
    let first = c.in_ok-first.first in
    let p = err_from_is_err_and c.from_residual-in_err-read_map.result c.from_residual-in_err-read_map.ensures.1 in
    let read = read_following c.args.names.now first.text.now first.place c.take_word.new.tokens c.read_map.new.tokens (Err c.in_err-read_map.field-0.0) c.as_slice.result.now []
    (c.as_slice.ensures ∙ c.from_vec-maps.ensures ∙ c.in_ok-with_capacity.ensures.items) c.in_err-read_map.ensures.map in
    rw (p.1, p.2)
    (maps_first_bad c.args.names.now first.text.now first.place c.args.tokens.now c.take_word.new.tokens c.read_map.new.tokens c.in_err-read_map.field-0.0
    (sym c.if-is_none.ensures) c.in_ok-first.ensures.word read)

pub loop-maps-init : goal.loop-maps-init
loop-maps-init c =
    let names = c.args.names.now in
    let first = c.in_ok-first.first in
    let m = c.in_ok-read_map.field-0 in
    let read = read_following names first.text.now first.place c.take_word.new.tokens c.read_map.new.tokens (Ok m) c.as_slice.result.now []
    (c.as_slice.ensures ∙ c.from_vec-maps.ensures ∙ c.in_ok-with_capacity.ensures.items) c.in_ok-read_map.ensures.map in
    let now : c.push.new.self ≡ m ∷ [] = c.in_ok-push.ensures.ok ∙ ap (λ l. l ++ m ∷ []) (c.from_vec-maps.ensures ∙ c.in_ok-with_capacity.ensures.items) in
    record {
      ready = c.in_ok-read_map.ensures.ready;
      next = λ h.
          let at = c.are_in_order-in_order.ensures h in
          ap sources now ∙ ap (λ l. l ∷ []) (c.in_ok-read_map.ensures.source ∙ sym at.2) ∙ sym (take_more names 0 [] at.1) ∙ ap (λ ms. take (length ms) names) (sym now);
      maps = λ result new z.
          maps_first names first.text.now first.place c.args.tokens.now c.take_word.new.tokens c.read_map.new.tokens m (sym c.if-is_none.ensures) c.in_ok-first.ensures.word read result new
          (reads_at (MoreMaps names) c.push.new.self (m ∷ []) c.read_map.new.tokens new result now z);
    }

pub returns-in_err-after-clause-maps : goal.returns-in_err-after-clause-maps
returns-in_err-after-clause-maps c =
    let p = err_from_is_err_and c.from_residual-in_err-after.result c.from_residual-in_err-after.ensures.1 in
    rw (p.1, p.2)
    (c.loop-maps.invariant.maps (Err c.in_err-after.field-0.0) c.take_after_map.new.tokens
    (more_no_mark c.args.names.now c.loop-maps.maps c.loop-maps.tokens c.take_after_map.new.tokens c.in_err-after.field-0.0 c.in_err-after.ensures.mark))

pub returns-in-After-clause-maps : goal.returns-in-After-clause-maps
returns-in-After-clause-maps c =
    let after = c.in-After.after in
    c.loop-maps.invariant.maps (Ok (c.loop-maps.maps, after)) c.take_after_map.new.tokens
    (more_end c.args.names.now c.loop-maps.maps c.loop-maps.tokens c.take_after_map.new.tokens after
    (reads_ok (One after_map) c.in_ok-after.field-0 (After after) c.loop-maps.tokens c.take_after_map.new.tokens c.in-After.is c.in_ok-after.ensures.mark))

pub returns-in_err-source-clause-maps : goal.returns-in_err-source-clause-maps
returns-in_err-source-clause-maps c =
    let p = err_from_is_err_and c.from_residual-in_err-source.result c.from_residual-in_err-source.ensures.1 in
    let comma = reads_ok (One after_map) c.in_ok-after.field-0 Map c.loop-maps.tokens c.take_after_map.new.tokens c.in_default.is c.in_ok-after.ensures.mark in
    rw (p.1, p.2)
    (c.loop-maps.invariant.maps (Err c.in_err-source.field-0.0) c.take_word-in-loop-maps.new.tokens
    (more_no_source c.args.names.now c.loop-maps.maps c.loop-maps.tokens c.take_after_map.new.tokens c.take_word-in-loop-maps.new.tokens c.in_err-source.field-0.0 comma c.in_err-source.ensures.fault))

pub returns-in_err-read_map-2-clause-maps : goal.returns-in_err-read_map-2-clause-maps
returns-in_err-read_map-2-clause-maps c =
    let names = c.args.names.now in
    let source = c.in_ok-source.source in
    let e = c.in_err-read_map-2.field-0.0 in
    let p = err_from_is_err_and c.from_residual-in_err-read_map-2.result c.from_residual-in_err-read_map-2.ensures.1 in
    let comma = reads_ok (One after_map) c.in_ok-after.field-0 Map c.loop-maps.tokens c.take_after_map.new.tokens c.in_default.is c.in_ok-after.ensures.mark in
    let read = read_following names source.text.now source.place c.take_word-in-loop-maps.new.tokens c.read_map-in-loop-maps.new.tokens (Err e) c.as_slice-in-loop-maps-2.result.now c.loop-maps.maps
    c.as_slice-in-loop-maps-2.ensures c.in_err-read_map-2.ensures.map in
    rw (p.1, p.2)
    (c.loop-maps.invariant.maps (Err e) c.read_map-in-loop-maps.new.tokens
    (more_bad names c.loop-maps.maps source.text.now source.place c.loop-maps.tokens c.take_after_map.new.tokens c.take_word-in-loop-maps.new.tokens c.read_map-in-loop-maps.new.tokens e
    comma c.in_ok-source.ensures.word read))

pub loop-maps-smaller : goal.loop-maps-smaller
loop-maps-smaller c =
    let names = c.args.names.now in
    let source = c.in_ok-source.source in
    let w = source.text.now in
    let a : length c.take_after_map.new.tokens.rest ≤ length c.loop-maps.tokens.rest = reads_no_longer (One after_map) c.in_ok-after.field-0 c.loop-maps.tokens c.take_after_map.new.tokens c.in_ok-after.ensures.mark in
    let b : length c.take_word-in-loop-maps.new.tokens.rest < length c.take_after_map.new.tokens.rest =
    takes_shorter (word w) c.take_after_map.new.tokens c.take_word-in-loop-maps.new.tokens c.in_ok-source.ensures.word.takes in
    let d : length c.read_map-in-loop-maps.new.tokens.rest ≤ length c.take_word-in-loop-maps.new.tokens.rest =
    following_no_longer (Target names w) (is_among names w && not (is_among (sources c.as_slice-in-loop-maps-2.result.now) w)) source.place c.in_ok-read_map-2.field-0
    c.take_word-in-loop-maps.new.tokens c.read_map-in-loop-maps.new.tokens c.in_ok-read_map-2.ensures.map in
    omega arith

pub loop-maps-preserved : goal.loop-maps-preserved
loop-maps-preserved c =
    let names = c.args.names.now in
    let done = c.loop-maps.maps in
    let source = c.in_ok-source.source in
    let m = c.in_ok-read_map-2.field-0 in
    let comma = reads_ok (One after_map) c.in_ok-after.field-0 Map c.loop-maps.tokens c.take_after_map.new.tokens c.in_default.is c.in_ok-after.ensures.mark in
    let read = read_following names source.text.now source.place c.take_word-in-loop-maps.new.tokens c.read_map-in-loop-maps.new.tokens (Ok m) c.as_slice-in-loop-maps-2.result.now done
    c.as_slice-in-loop-maps-2.ensures c.in_ok-read_map-2.ensures.map in
    record {
      ready = c.in_ok-read_map-2.ensures.ready;
      next = λ h.
          let at = c.are_in_order-in_order-in-loop-maps.ensures h in
          let count : length c.as_slice-in-loop-maps.result.now ≡ length done = ap length c.as_slice-in-loop-maps.ensures in
          let grown = c.in_ok-push-2.ensures.ok in
          ap sources grown ∙ sources-append done (m ∷ [])
          ∙ ap₂ (λ l w. l ++ w ∷ []) (c.loop-maps.invariant.next at.0) (c.in_ok-read_map-2.ensures.source ∙ sym at.2 ∙ ap (λ k. get_or names k []) count)
          ∙ sym (take_more names (length done) [] (omega (arith, at.1, count))) ∙ ap (λ n. take n names) (sym (ap length grown ∙ length-append done (m ∷ [])));
      maps = λ result new z. c.loop-maps.invariant.maps result new
          (more_next names done source.text.now source.place c.loop-maps.tokens c.take_after_map.new.tokens c.take_word-in-loop-maps.new.tokens c.read_map-in-loop-maps.new.tokens m
          comma c.in_ok-source.ensures.word read result new
          (reads_at (MoreMaps names) c.push-in-loop-maps.new.self (done ++ m ∷ []) c.read_map-in-loop-maps.new.tokens new result c.in_ok-push-2.ensures.ok z));
    }

pub read_map-requires-clause-next : goal.read_map-requires-clause-next
read_map-requires-clause-next c h =
    let at = c.are_in_order-in_order.ensures h in
    next_source c.args.names.now (sources c.as_slice.result.now) 0 c.in_ok-first.first.text.now c.requires.distinct at.1 at.2
    (ap sources (c.as_slice.ensures ∙ c.from_vec-maps.ensures ∙ c.in_ok-with_capacity.ensures.items))

pub read_map-requires-in-loop-maps-clause-next : goal.read_map-requires-in-loop-maps-clause-next
read_map-requires-in-loop-maps-clause-next c h =
    let at = c.are_in_order-in_order-in-loop-maps.ensures h in
    let count : length c.as_slice-in-loop-maps.result.now ≡ length c.loop-maps.maps = ap length c.as_slice-in-loop-maps.ensures in
    next_source c.args.names.now (sources c.as_slice-in-loop-maps-2.result.now) (length c.loop-maps.maps) c.in_ok-source.source.text.now c.requires.distinct (omega (arith, at.1, count)) (ap (λ k. get_or c.args.names.now k []) (sym count) ∙ at.2)
    (ap sources c.as_slice-in-loop-maps-2.ensures ∙ c.loop-maps.invariant.next at.0)
