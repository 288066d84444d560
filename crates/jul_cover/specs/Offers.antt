-- Numbers that sets offer to their elements: what each application logs, and what is left of the words.
use Rattle.std.specs.Prelude.{◌≡◌, ◌⊎◌, ℕ, ◌+◌, ◌<◌, ◌≤◌, ◌^◌, List, [], ◌∷◌, ◌++◌, length, map, All, Contains}
use Rattle.jul_base.specs.Logs.{Log, Entry, Home}
use Rattle.jul_words.specs.Seats.{Seat, IsAlone, IsSeatOf, floor_of}
use Rattle.jul_words.specs.Least.{word_of}
use Rattle.jul_cover.specs.declared.packed_sets.PackedSets.{PackedSets}
use Rattle.jul_cover.specs.PackedSets.{pack_at, ArePacked}

-- entries that offer a number to these elements, one after another
pub record AreOffers (number : ℕ) (elements : List ℕ) (entries : List Entry) : Type 0 where
  pub vertices : map (λ (e : Entry). e.vertex) entries ≡ elements
  pub numbers : All (λ (e : Entry). e.number ≡ number) entries

-- an application at set s offers base + s to each element of its pack
pub record Offers (p : PackedSets) (base s : ℕ) (added : Log) : Type 0 where
  pub entries : List Entry
  pub are : AreOffers (base + s) (pack_at p s) entries
  pub added_is : added ≡ entries ∷ []

-- a table of a word for each of n elements, without floors
pub record IsTable (n : ℕ) (h : Home) : Type 0 where
  pub words : length h.starts ≡ n
  pub no_floors : (v : ℕ) → floor_of h v ≡ 0

-- an application may be made with a seat of such a table
pub record CanOffer (p : PackedSets) (base s : ℕ) (homes : List Home) : Type 0 where
  pub home : Home
  pub homes_are : homes ≡ home ∷ []
  pub table : IsTable p.n home
  pub packed : ArePacked p
  pub in_range : s < p.n
  pub few : base + s < 2 ^ 64

-- the root of such a table, with none out
pub record IsRootOf (n : ℕ) (table : List ℕ) (s : Seat) : Type 0 where
  pub of_table : IsSeatOf table s
  pub is_table : IsTable n s.home
  pub alone : IsAlone s

-- no word is above what a member offers to an element of its pack, and a word that isn't as it was is such a number
pub record HasOffered (members : List ℕ) (pack : ℕ → List ℕ) (base : ℕ) (old new : Seat) : Type 0 where
  pub home : new.home ≡ old.home
  pub alone : IsAlone new
  pub falls : (e : ℕ) → word_of new e ≤ word_of old e
  pub lower : (e s : ℕ) → Contains members s → Contains (pack s) e → word_of new e ≤ base + s
  pub each : (e : ℕ) → (word_of new e ≡ word_of old e) ⊎ ((s : ℕ) × Contains members s × Contains (pack s) e × (word_of new e ≡ base + s))

-- a seat through which a number was offered to these elements
pub record HasLowered (number : ℕ) (elements : List ℕ) (old new : Seat) : Type 0 where
  pub entries : List Entry
  pub are : AreOffers number elements entries
  pub seat_is : new ≡ record { home = old.home; root = old.root; out = old.out; log = old.log ++ entries }
