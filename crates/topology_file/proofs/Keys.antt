-- Short texts of one length that have one key are the same.
use Rattle.std.proofs.Common.{◌≡◌, ◌≤◌, ◌<◌, ◌+◌, ◌-◌, ◌*◌, ◌%◌, ◌^◌, ℕ, zero, suc, List, [], ◌∷◌, length, refl, sym, ap, ◌∙◌, arith}
use Rattle.topology_file.specs.Keys.{next_key, key_from, AreBytes, IsKeyed}

-- 256 to that power
abbrev power : ℕ → ℕ
power zero = 1
power (suc n) = 256 * power n

power_more : (m n : ℕ) → power n ≤ power (m + n)
power_more zero n =
    let none : zero + n ≡ n = omega arith in
    let same : power (zero + n) ≡ power n = ap power none in
    omega (arith, same)
power_more (suc m) n =
    let next : suc m + n ≡ suc (m + n) = omega arith in
    let same : power (suc m + n) ≡ 256 * power (m + n) = ap power next in
    let more = power_more m n in
    omega (arith, same, more)

-- no byte is lost while there are few
next_small : (key byte : ℕ) → key * 256 + byte < 2 ^ 64 → next_key key byte ≡ key * 256 + byte
next_small key byte small = omega (arith, small)

next_within : (m n key byte : ℕ) → m + suc n ≡ 8 → key < power n → byte < 256 → (key * 256 + byte < power (suc n)) × (next_key key byte ≡ key * 256 + byte)
next_within m n key byte e k b =
    let within : key * 256 + byte < 256 * power n = omega (arith, k, b) in
    let most : power (suc n) ≤ power (m + suc n) = power_more m (suc n) in
    let eight : power (m + suc n) ≡ 2 ^ 64 = ap power e in
    (within, next_small key byte (omega (arith, within, most, eight)))

same_from : (xs ys : List ℕ) (m n j k : ℕ) → m + length xs + n ≡ 8 → length xs ≡ length ys → AreBytes xs → AreBytes ys → j < power n → k < power n
    → key_from j xs ≡ key_from k ys → (j ≡ k) × (xs ≡ ys)
same_from [] [] m n j k e l a b p q h = (h, refl)
same_from [] (y ∷ ys) m n j k e l a b p q h = absurd (omega (arith, l))
same_from (x ∷ xs) [] m n j k e l a b p q h = absurd (omega (arith, l))
same_from (x ∷ xs) (y ∷ ys) m n j k e l a b p q h =
    let count : m + length xs + suc n ≡ 8 = omega (arith, e) in
    let first = next_within (m + length xs) n j x count p a.0 in
    let second = next_within (m + length xs) n k y count q b.0 in
    let left : key_from (next_key j x) xs ≡ key_from (j * 256 + x) xs = ap (λ z. key_from z xs) first.1 in
    let right : key_from (next_key k y) ys ≡ key_from (k * 256 + y) ys = ap (λ z. key_from z ys) second.1 in
    let lengths : length xs ≡ length ys = omega (arith, l) in
    let more = same_from xs ys m (suc n) (j * 256 + x) (k * 256 + y) count lengths a.1 b.1 first.0 second.0 (sym left ∙ h ∙ right) in
    let both = more.0 in
    let below_x : x < 256 = a.0 in
    let below_y : y < 256 = b.0 in
    let keys : j ≡ k = omega (arith, both, below_x, below_y) in
    let bytes : x ≡ y = omega (arith, both, below_x, below_y) in
    (keys, ap (λ z. z ∷ xs) bytes ∙ ap (λ zs. y ∷ zs) more.1)

pub same_words : (xs ys : List ℕ) (j k : ℕ) → IsKeyed xs j → IsKeyed ys k → j ≡ k → length xs ≡ length ys → length xs ≤ 8 → xs ≡ ys
same_words xs ys j k i l e n short =
    (same_from xs ys (8 - length xs) 0 0 0 (omega (arith, short)) n i.bytes l.bytes (omega arith) (omega arith) (i.is ∙ e ∙ sym l.is)).1
