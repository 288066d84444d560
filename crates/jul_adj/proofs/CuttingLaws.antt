-- A text that is cut for several threads.
use Rattle.std.proofs.Common.{◌≡◌, ℕ, ◌+◌, ◌-◌, ◌<◌, ◌≤◌, List, length, drop, ◌∙◌, ap, arith, Option, Vec, Global}
use Rattle.std.proofs.lemmas.List.{length-take-le, length-drop}
use Rattle.jul_base.specs.Logs.{Log}
use Rattle.jul_text.specs.Cuts.{AreCutPoints, EndsWhite}
use Rattle.jul_text.proofs.CutPointLaws.{point_within, points_rise}
use Rattle.jul_pool.specs.Runs.{EachRunOnce}
use Rattle.jul_pool.proofs.GivenLaws.{given_at}
use Rattle.jul_adj.specs.Cutting.{CanRead, place_of, cut_of, IsReadAs, AreCutsRead}

module _ (bytes points : List ℕ) (pieces : ℕ) (some : 0 < pieces) (are : AreCutPoints bytes pieces points) (white : EndsWhite bytes) where
  pub can_read : (chunk : ℕ) → chunk < pieces → CanRead bytes points chunk
  can_read chunk lt = record {
    there = omega (arith, are.count, lt);
    rising = points_rise bytes pieces points some are white chunk lt;
    within = point_within bytes pieces points some are white (chunk + 1) (omega (arith, lt));
  }

  -- a cut is as long as its points say, and ends within the text
  pub record IsMeasured (chunk : ℕ) (cut : List ℕ) : Type 0 where
    pub rising : place_of points chunk ≤ place_of points (chunk + 1)
    pub within : place_of points (chunk + 1) ≤ length bytes
    pub size : length cut ≡ place_of points (chunk + 1) - place_of points chunk

  pub measured : (chunk : ℕ) (cut : List ℕ) → chunk < pieces → cut ≡ cut_of bytes points chunk → IsMeasured chunk cut
  measured chunk cut lt is =
      let can : CanRead bytes points chunk = can_read chunk lt in
      let from : ℕ = place_of points chunk in
      let to : ℕ = place_of points (chunk + 1) in
      record {
        rising = can.rising;
        within = can.within;
        size = ap length is ∙ length-take-le (to - from) (drop from bytes) (omega (arith, can.within, length-drop from bytes));
      }

pub all_read : (bytes points : List ℕ) (pieces bound : ℕ) (old new : Log) (outs : List (Option (Vec ℕ Global))) (order : List ℕ) →
    EachRunOnce (λ (chunk : ℕ) (out : Option (Vec ℕ Global)) (added : Log). IsReadAs (cut_of bytes points chunk) bound out) pieces old new outs order → AreCutsRead bytes points pieces bound outs
all_read bytes points pieces bound old new outs order ran = record {
  count = ran.count;
  each = λ chunk read e. (given_at (λ (i : ℕ) (out : Option (Vec ℕ Global)) (added : Log). IsReadAs (cut_of bytes points i) bound out) pieces old new outs order ran chunk read e).1;
}
