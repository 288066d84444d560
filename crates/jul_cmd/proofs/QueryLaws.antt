-- The files of a query.
use Rattle.std.proofs.Common.{◌≡◌, ℕ, List, [], ◌∷◌, ◌++◌, ◌∙◌, ap, Option, Some, None, subst}
use Rattle.std.specs.List.{All}
use Rattle.std.proofs.lemmas.List.Elements.{All-head, All-tail}
use Rattle.jul_query.specs.declared.queries.Query.{Query}
use Rattle.jul_query.specs.Queries.{Asked}
use Rattle.jul_query.specs.Asking.{asked_by, IsAsked}
use Rattle.jul_cmd.specs.declared.statuses.Which.{Which}
use Rattle.jul_cmd.specs.declared.statuses.Which.TheVariants.{Graph, Witness}
use Rattle.jul_cmd.specs.Queries.{name_of, listed, read_in_order}

first_listed : (P : List ℕ → Type 0) (a b : Option (List ℕ)) (name : List ℕ) → a ≡ Some name → All P (listed a ++ listed b) → P name
first_listed P None b name e all = absurd (cc)
first_listed P (Some x) b name e all = let same : x ≡ name = cc in subst P same (All-head P x (listed b) all)

second_listed : (P : List ℕ → Type 0) (a b : Option (List ℕ)) (name : List ℕ) → b ≡ Some name → All P (listed a ++ listed b) → P name
second_listed P a None name e all = absurd (cc)
second_listed P None (Some y) name e all = let same : y ≡ name = cc in subst P same (All-head P y [] all)
second_listed P (Some x) (Some y) name e all = let same : y ≡ name = cc in subst P same (All-head P y [] (All-tail P x (y ∷ []) all))

-- what holds of all files that are read holds of each that a query has
pub named_file : (P : List ℕ → Type 0) (query : Asked) (which : Which) (name : List ℕ) → name_of query which ≡ Some name → All P (read_in_order query) → P name
named_file P query Graph name e all = first_listed P (name_of query Graph) (name_of query Witness) name e all
named_file P query Witness name e all = second_listed P (name_of query Graph) (name_of query Witness) name e all

-- ---- what the words ask for

-- the query that the words were taken as
pub taken_as : (found : Option Query) (query : Query) (said : Option Asked) → found ≡ Some query → IsAsked found said → said ≡ Some (asked_by query)
taken_as None query said e h = absurd (cc)
taken_as (Some q) query said e h = let same : q ≡ query = cc in h ∙ ap (λ (x : Query). Some (asked_by x)) same
