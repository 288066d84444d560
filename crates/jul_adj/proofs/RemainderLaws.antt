-- A quotient that is tried, and the remainder that it leaves.
use Rattle.std.proofs.Common.{◌≡◌, ℕ, ◌+◌, ◌-◌, ◌*◌, ◌/◌, ◌%◌, ◌<◌, ◌≤◌, sym, ◌∙◌, ap, arith}
use Rattle.std.proofs.Math.Nat.{lt_of_mul-lt-mul_right, le_of_mul-le-mul_right, mul-le-mul_right, add-mul-mod_self_right, mod-eq_of_lt, div-mul-le_self, lt-div-mul-add}

-- the number goes m times into the words below w; q is the part of x * m in whole w
module _ (number w m x q : ℕ) (some : 0 < number) (words : 0 < w) (fits : m * number < w) (most : w ≤ m * number + number) (word : x < w) (low : q * w ≤ x * m) (high : x * m < q * w + w) where
  tried-le : q * number ≤ x
  tried-le =
      let a : q * w * number ≤ x * m * number = mul-le-mul_right number low in
      let b : m * number * x ≤ w * x = mul-le-mul_right x (omega (arith, fits)) in
      let same : q * w * number ≡ q * number * w = omega arith in
      let turned : m * number * x ≡ x * m * number = omega arith in
      let c : w * x ≡ x * w = omega arith in
      le_of_mul-le-mul_right {k = w} (omega (arith, a, b, same, turned, c)) words

  tried-near : x < q * number + number + number
  tried-near =
      let a : w * x ≤ (m * number + number) * x = mul-le-mul_right x most in
      let b : (x * m + 1) * number ≤ (q * w + w) * number = mul-le-mul_right number (omega (arith, high)) in
      let d : x * number ≤ w * number = mul-le-mul_right number (omega (arith, word)) in
      let e : (m * number + number) * x ≡ x * m * number + x * number = omega arith in
      let f : (x * m + 1) * number ≡ x * m * number + number = omega arith in
      let h : (q * w + w) * number ≡ (q * number + number) * w = omega arith in
      let i : (q * number + number + number) * w ≡ (q * number + number) * w + w * number = omega arith in
      let j : w * x ≡ x * w = omega arith in
      lt_of_mul-lt-mul_right w (omega (arith, a, b, d, e, f, h, i, j, some))

  rest-first : x - q * number < number → x - q * number ≡ x % number
  rest-first lt =
      let whole : x ≡ (x - q * number) + q * number = omega (arith, tried-le) in
      sym (ap (λ k. k % number) whole ∙ add-mul-mod_self_right (x - q * number) q number ∙ mod-eq_of_lt lt)

  rest-second : number ≤ x - q * number → x - q * number - number ≡ x % number
  rest-second le =
      let next : (q + 1) * number ≡ q * number + number = omega arith in
      let whole : x ≡ (x - q * number - number) + (q + 1) * number = omega (arith, tried-le, le, next) in
      let lt : x - q * number - number < number = omega (arith, tried-near, tried-le, le) in
      sym (ap (λ k. k % number) whole ∙ add-mul-mod_self_right (x - q * number - number) (q + 1) number ∙ mod-eq_of_lt lt)

-- the number goes m times into the greatest word
module _ (number m word : ℕ) (some : 1 ≤ number) (times : m ≡ 18446744073709551615 / number) (small : word < 18446744073709551616) where
  abbrev pub tried : ℕ
  tried = word * m / 18446744073709551616

  fits : m * number < 18446744073709551616
  fits = omega (arith, ap (λ k. k * number) times, div-mul-le_self 18446744073709551615 number)

  most : 18446744073709551616 ≤ m * number + number
  most = omega (arith, ap (λ k. k * number) times, lt-div-mul-add {a = 18446744073709551615} {b = number} (omega (arith, some)))

  low : tried * 18446744073709551616 ≤ word * m
  low = div-mul-le_self (word * m) 18446744073709551616

  high : word * m < tried * 18446744073709551616 + 18446744073709551616
  high = lt-div-mul-add {a = word * m} {b = 18446744073709551616} (omega arith)

  pub tried_le : tried * number ≤ word
  tried_le = tried-le number 18446744073709551616 m word tried (omega (arith, some)) (omega arith) fits most small low high

  pub rest_first : word - tried * number < number → word - tried * number ≡ word % number
  rest_first = rest-first number 18446744073709551616 m word tried (omega (arith, some)) (omega arith) fits most small low high

  pub rest_second : number ≤ word - tried * number → word - tried * number - number ≡ word % number
  rest_second = rest-second number 18446744073709551616 m word tried (omega (arith, some)) (omega arith) fits most small low high
