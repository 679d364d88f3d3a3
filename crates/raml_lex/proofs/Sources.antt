-- Going on in a source.
use Rattle.std.specs.List.{list_all}
use Rattle.std.proofs.Common.{◌≡◌, true, false, Bool, not, ◌&&◌, count_by, ℕ, zero, suc, ◌+◌, ◌-◌, ◌≤◌, ◌<◌, ◌∷◌, get_or, List, [], ◌++◌, length, take, drop, Option, None, refl, ap, sym, ◌∙◌, arith, length-drop, append_assoc}
use Rattle.std.proofs.Math.Seq.{take-add}
use Rattle.std.proofs.lemmas.List.{drop-drop, drop_more, length-take-le, take-append-drop, append-nil}
use Rattle.meta_base.specs.declared.ids.Place.{Place}
use Rattle.raml_lex.specs.declared.token.Token.{Token}
use Rattle.raml_lex.specs.declared.token.LexFault.{LexFault}
use Rattle.raml_lex.specs.Gaps.{gap_of, after_gap}
use Rattle.raml_lex.specs.Lexers.{Found, Ended}
use Rattle.raml_lex.specs.Places.{place_after, moved_over}
use Rattle.meta_base.specs.Bytes.{is_line_feed}
use Rattle.raml_lex.specs.declared.cursor.Cursor.{Cursor}
use Rattle.raml_lex.specs.Sources.{IsSource, IsCursor, place_at}
use Rattle.raml_lex.specs.Tokens.{token_at, token}
use Rattle.raml_lex.specs.Views.{tok_of, IsWithin}
use Rattle.raml_lex.proofs.Gaps.{gap_split, gap_is_gap}
use Rattle.raml_lex.proofs.Places.{place_after-append, moved_over-line, moved_over-last}

-- so many bytes on
pub IsSource-more : (s : List ℕ) (a n : ℕ) (p : Place) → IsSource s a p → n ≤ length (drop a s) → IsSource s (a + n) (moved_over p (take n (drop a s)))
IsSource-more s a n p i h = record {
  short = i.short;
  within = omega (arith, i.within, length-drop a s, h);
  place = ap (λ q. moved_over q (take n (drop a s))) i.place ∙ sym (place_after-append (take n (drop a s)) (take a s)) ∙ ap place_after (sym (take-add a n s));
}

-- a cursor moves over bytes of its line, and over a line feed
pub IsCursor-line : (s : List ℕ) (c : Cursor) (n : ℕ) → IsCursor s c → n ≤ length (drop c.at s) → list_all (λ b. not (is_line_feed b)) (take n (drop c.at s)) ≡ true
    → IsCursor s (record { at = c.at + n; line = c.line; line_start = c.line_start })
IsCursor-line s c n i within line =
    let more = IsSource-more s c.at n (place_at c) i.here within in
    let start = i.start in
    let column : moved_over (place_at c) (take n (drop c.at s)) ≡ record { line = c.line; column = c.at + n - c.line_start + 1 }
    = moved_over-line (take n (drop c.at s)) (place_at c) line ∙ ap (λ m. record { line = c.line; column = m }) (let e = length-take-le n (drop c.at s) within in omega arith) in
    record {
      here = record { short = more.short; within = more.within; place = sym column ∙ more.place };
      start = omega arith;
    }

pub IsCursor-feed : (s : List ℕ) (c : Cursor) → IsCursor s c → c.at < length s → is_line_feed (get_or s c.at 0) ≡ true
    → IsCursor s (record { at = c.at + 1; line = c.line + 1; line_start = c.at + 1 })
IsCursor-feed s c i h feed =
    let within : 1 ≤ length (drop c.at s) = omega (arith, length-drop c.at s, h) in
    let more = IsSource-more s c.at 1 (place_at c) i.here within in
    let bytes : take 1 (drop c.at s) ≡ get_or s c.at 0 ∷ [] = first_taken s c.at h in
    let place : moved_over (place_at c) (take 1 (drop c.at s)) ≡ record { line = c.line + 1; column = c.at + 1 - (c.at + 1) + 1 }
    = ap (moved_over (place_at c)) bytes ∙ rw feed (ap (λ m. record { line = c.line + 1; column = m }) (omega arith)) in
    record {
      here = record { short = more.short; within = more.within; place = sym place ∙ more.place };
      start = omega arith;
    }
  where
    first_taken : (s : List ℕ) (i : ℕ) → i < length s → take 1 (drop i s) ≡ get_or s i 0 ∷ []
    first_taken s i h = ap (take 1) (drop_more s i 0 h)

-- a cursor moves over bytes with line feeds, the last of which stands there
pub IsCursor-lines : (s : List ℕ) (c : Cursor) (bytes : List ℕ) (last : ℕ) → IsCursor s c → take (length bytes) (drop c.at s) ≡ bytes → length bytes ≤ length (drop c.at s)
    → last < length bytes → get_or bytes last 0 ≡ 10 → list_all (λ b. not (is_line_feed b)) (drop (last + 1) bytes) ≡ true
    → IsCursor s (record { at = c.at + length bytes; line = c.line + count_by is_line_feed bytes; line_start = c.at + last + 1 })
IsCursor-lines s c bytes last i same within h feed line =
    let more = IsSource-more s c.at (length bytes) (place_at c) i.here within in
    let split : take last bytes ++ 10 ∷ drop (last + 1) bytes ≡ bytes
    = ap (λ x. take last bytes ++ x) (ap (λ b. b ∷ drop (last + 1) bytes) (sym feed) ∙ sym (drop_more bytes last 0 h)) ∙ take-append-drop last bytes in
    let moved = moved_over-last (take last bytes) (drop (last + 1) bytes) (place_at c) line in
    let place : moved_over (place_at c) (take (length bytes) (drop c.at s)) ≡ record { line = c.line + count_by is_line_feed bytes; column = c.at + length bytes - (c.at + last + 1) + 1 }
    = ap (moved_over (place_at c)) (same ∙ sym split) ∙ moved ∙ ap (λ x. record { line = c.line + count_by is_line_feed x; column = 1 + length (drop (last + 1) bytes) }) split
    ∙ ap (λ m. record { line = c.line + count_by is_line_feed bytes; column = m }) (let e = length-drop (last + 1) bytes in omega arith) in
    record {
      here = record { short = more.short; within = more.within; place = sym place ∙ more.place };
      start = omega arith;
    }

-- no byte from there on is a line feed
pub none_from : (cs : List ℕ) (n : ℕ) → ((k : ℕ) → n ≤ k → k < length cs → is_line_feed (get_or cs k 0) ≡ true → ⊥) → list_all (λ b. not (is_line_feed b)) (drop n cs) ≡ true
none_from [] zero h = refl
none_from [] (suc n) h = refl
none_from (c ∷ cs) (suc n) h = none_from cs n (λ k l m. h (suc k) (omega (arith, l)) (omega (arith, m)))
none_from (c ∷ cs) zero h = by (is_line_feed c) refl (none_from cs zero (λ k l m. h (suc k) (omega arith) (omega (arith, m))))
  where
    by : (b : Bool) → is_line_feed c ≡ b → list_all (λ b. not (is_line_feed b)) cs ≡ true → (not b && list_all (λ b. not (is_line_feed b)) cs) ≡ true
    by true e rest = absurd (h 0 (omega arith) (omega arith) e)
    by false e rest = rest

-- no byte before the end of a line is a line feed
pub all_in_line : (cs : List ℕ) (n : ℕ) → ((k : ℕ) → k < n → is_line_feed (get_or cs k 0) ≡ false) → list_all (λ b. not (is_line_feed b)) (take n cs) ≡ true
all_in_line [] zero h = refl
all_in_line [] (suc n) h = refl
all_in_line (c ∷ cs) zero h = refl
all_in_line (c ∷ cs) (suc n) h = rw (h 0 (omega arith)) (all_in_line cs n (λ k l. h (suc k) (omega (arith, l))))

-- nothing was left after the gap
pub Ended-at : (s : List ℕ) (a b greatest : ℕ) (fault : Option LexFault) → fault ≡ None → take b s ≡ take a s ++ gap_of false (drop a s) → drop b s ≡ after_gap false (drop a s) → drop b s ≡ []
    → Ended (record { before = take a s; rest = drop a s; greatest = greatest; fault = fault }) (record { before = take b s; rest = drop b s; greatest = greatest; fault = fault })
Ended-at s a b greatest fault none t d e =
    let empty : after_gap false (drop a s) ≡ [] = sym d ∙ e in
    let all : gap_of false (drop a s) ≡ drop a s = sym (append-nil (gap_of false (drop a s))) ∙ ap (λ x. gap_of false (drop a s) ++ x) (sym empty) ∙ gap_split false (drop a s) in
    record {
      no_fault = none;
      step = ap (token_at greatest) empty;
      all = all;
      gap = rw (all, empty) at (gap_is_gap false (drop a s));
      after = rw (t, e, all) refl;
    }

-- a token stood after the gap
pub Found-at : (s : List ℕ) (a b n greatest : ℕ) (fault : Option LexFault) (t : Token) → fault ≡ None → take b s ≡ take a s ++ gap_of false (drop a s) → drop b s ≡ after_gap false (drop a s) → IsWithin n (drop b s)
    → t.text.now ≡ take n (drop b s) → t.place ≡ place_after (take b s) → token (tok_of t.kind (take n (drop b s))) (drop n (drop b s)) ≡ token_at greatest (drop b s)
    → Found (record { before = take a s; rest = drop a s; greatest = greatest; fault = fault }) t (record { before = take (b + n) s; rest = drop (b + n) s; greatest = greatest; fault = fault })
Found-at s a b n greatest fault t none before d w text place step =
    let rest : take n (drop b s) ++ drop n (drop b s) ≡ drop b s = take-append-drop n (drop b s) in
    let left : t.text.now ++ drop (b + n) s ≡ after_gap false (drop a s) = ap (λ x. x ++ drop (b + n) s) text ∙ ap (λ x. take n (drop b s) ++ x) (sym (drop-drop n b s)) ∙ rest ∙ d in
    record {
      no_fault = none;
      step = ap (token_at greatest) (sym d) ∙ sym step ∙ ap (λ x. token (tok_of t.kind x) (drop n (drop b s))) (sym text) ∙ ap (λ x. token (tok_of t.kind t.text.now) x) (drop-drop n b s);
      some = omega (arith, w.some, ap length text, length-take-le n (drop b s) w.within);
      text = sym (ap (λ x. gap_of false (drop a s) ++ x) left ∙ gap_split false (drop a s));
      gap = rw left (gap_is_gap false (drop a s));
      place = place ∙ ap place_after before;
      before = take-add b n s ∙ ap (λ x. x ++ take n (drop b s)) before ∙ append_assoc (take a s) (gap_of false (drop a s)) (take n (drop b s)) ∙ ap (λ x. take a s ++ (gap_of false (drop a s) ++ x)) (sym text);
      greatest = refl;
      still_none = none;
    }
