-- Results that a text can hold: columns of one length, of at most so many vertices as a graph may have.
use Rattle.std.specs.Prelude.{◌≡◌, ◌≢◌, ◌≤◌, Bool, true, false, ◌&&◌, length, is_some, IfSome}
use Rattle.std.specs.List.{All}
use Rattle.jul_base.specs.declared.limits.TheConstants.{NONE, MAX_N, MAX_M}
use Rattle.jul_base.specs.declared.results.Cores.{Cores}
use Rattle.jul_base.specs.declared.results.Distances.{Distances}
use Rattle.jul_base.specs.declared.results.Cover.{Cover}
use Rattle.jul_base.specs.Sources.{AreNamedSources}
use Rattle.jul_witness.specs.declared.witnesses.Columns.{Columns}
use Rattle.jul_witness.specs.declared.witnesses.Columns.TheVariants as results
use Rattle.jul_witness.specs.declared.witnesses.Witness.{Witness}

-- each vertex has a core and a level
pub record AreLawfulCores (c : Cores) : Type 0 where
  pub few : length c.core ≤ MAX_N
  pub level : length c.level ≡ length c.core
  pub cores : All (λ x. x ≢ NONE) c.core
  pub levels : All (λ x. x ≢ NONE) c.level

pub record AreLawfulDistances (d : Distances) : Type 0 where
  pub few : length d.dist ≤ MAX_N
  pub hops : length d.hops ≡ length d.dist
  pub parent : length d.parent ≡ length d.dist

pub record IsLawfulCover (c : Cover) : Type 0 where
  pub few : length c.round ≤ MAX_N
  pub by : length c.by ≡ length c.round

abbrev pub IsLawful : Columns → Type 0
IsLawful (results.Cores c) = AreLawfulCores c
IsLawful (results.Distances d) = AreLawfulDistances d
IsLawful (results.Cover c) = IsLawfulCover c

abbrev pub has_distances : Columns → Bool
has_distances (results.Cores c) = false
has_distances (results.Distances d) = true
has_distances (results.Cover c) = false

-- a witness that was read: it names sources exactly where it says the number of places and has distances
pub record IsLawfulWitness (w : Witness) : Type 0 where
  pub columns : IsLawful w.columns
  pub places : IfSome w.places (λ m. m ≤ MAX_M)
  pub sources : IfSome w.sources AreNamedSources
  pub named : is_some w.sources ≡ (is_some w.places && has_distances w.columns)
