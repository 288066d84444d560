use Rattle.std.proofs.Common.{rules, ◌≡◌, ℕ, ◌-◌, ◌*◌, ◌/◌, ◌%◌, ◌<◌, ◌≤◌, ◌∙◌, sym, ap, subst, arith, mod-lt}
use Rattle.jul_adj.proofs.RemainderLaws.{tried_le, rest_first, rest_second}
use Rattle.jul_adj.proofs.remainders.Divisor.remainder.Goals as goal
use Rattle.jul_adj.proofs.remainders.Divisor.remainder.Goals.{then-rest-self, else-rest-self}

pub overflow_sub-rest : goal.overflow_sub-rest
overflow_sub-rest c =
    let le = tried_le c.args.self.number c.from-2.result c.from.result c.args.self.some (c.from-2.ensures ∙ c.args.self.times_is) (omega (arith, c.from.ensures, c.ranges.word)) in
    omega (arith, le, c.from.ensures)

pub returns : goal.returns
returns c =
    let number : ℕ = c.args.self.number in
    let times : c.from-2.result ≡ 18446744073709551615 / number = c.from-2.ensures ∙ c.args.self.times_is in
    let small : c.from.result < 18446744073709551616 = omega (arith, c.from.ensures, c.ranges.word) in
    let tried : ℕ = c.from.result * c.from-2.result / 18446744073709551616 in
    elim c.if-rest-self.branch [
      | then-rest-self w ↦
          let lt : c.from.result - tried * number < number = subst (λ k. k - tried * number < number) (sym c.from.ensures) w.if-rest-self.true in
          w.rest-is
          ∙ ap (λ k. k - tried * number) (sym c.from.ensures)
          ∙ rest_first number c.from-2.result c.from.result c.args.self.some times small lt
          ∙ ap (λ k. k % number) c.from.ensures
      | else-rest-self w ↦
          let le : number ≤ c.from.result - tried * number = subst (λ k. number ≤ k - tried * number) (sym c.from.ensures) w.if-rest-self.false in
          w.rest-is
          ∙ ap (λ k. k - tried * number - number) (sym c.from.ensures)
          ∙ rest_second number c.from-2.result c.from.result c.args.self.some times small le
          ∙ ap (λ k. k % number) c.from.ensures
    ]

pub overflow_cast-result : goal.overflow_cast-result
overflow_cast-result c =
    let lt : c.args.word % c.args.self.number < c.args.self.number = mod-lt c.args.word (omega (arith, c.args.self.some)) in
    let le : c.if-rest-self.rest < 4294967296 = omega (arith, returns c, lt, c.args.self.small) in
    search (rules, le)
