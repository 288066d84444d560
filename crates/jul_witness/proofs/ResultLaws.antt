-- The texts of cores, distances and covers are read back, and are short.
use Rattle.std.proofs.Common.{◌≡◌, ◌≢◌, ℕ, suc, ◌^◌, ◌<◌, ◌≤◌, true, List, [], ◌∷◌, map, length, get_or, Option, Some, None, Ok, refl, ◌∙◌, ap, arith, inl, inr}
use Rattle.std.specs.List.{All}
use Rattle.std.proofs.lemmas.Bool.{cases_lt, cond-false, le-ltb}
use Rattle.std.proofs.lemmas.List.{get_or_past}
use Rattle.jul_base.specs.declared.limits.TheConstants.{NONE, MAX_M, MAX_BYTES}
use Rattle.jul_base.specs.declared.results.Cores.{Cores}
use Rattle.jul_base.specs.declared.results.Distances.{Distances}
use Rattle.jul_base.specs.declared.results.Cover.{Cover}
use Rattle.jul_base.specs.Sources.{AreNamedSources}
use Rattle.jul_text.specs.Tokens.{Word, tokens}
use Rattle.jul_witness.specs.declared.forms.Form.{Form}
use Rattle.jul_witness.specs.declared.forms.Form.TheVariants as forms
use Rattle.jul_witness.specs.declared.witnesses.Columns.{Columns}
use Rattle.jul_witness.specs.declared.witnesses.Columns.TheVariants as results
use Rattle.jul_witness.specs.declared.witnesses.Witness.{Witness}
use Rattle.jul_witness.specs.Forms.{written, takes_dash}
use Rattle.jul_witness.specs.Lawful.{AreLawfulCores, AreLawfulDistances, IsLawfulCover}
use Rattle.jul_witness.specs.Texts.{value_text, sources_line, result_text, cores_text, distances_text, cover_text, witness_of_columns}
use Rattle.jul_witness.specs.Roles.{said_places, said_sources}
use Rattle.jul_witness.specs.Reading.{columns_said, read_tokens, reads_witness}
use Rattle.jul_witness.proofs.PartLaws.{AreWords, number_fits, no_parts, source_parts, line_parts, texts-result_text, sources_short, result_text-short}
use Rattle.jul_witness.proofs.ReadBackLaws.{IsEntry, AreEntries, places_back, sources_back, sources_named, nothing_named, reads_back, column_back}

abbrev Fit : List ℕ → Type 0
Fit xs = All (λ x. x < 2 ^ 64) xs

number_some : (xs : List ℕ) (v : ℕ) → All (λ x. x ≢ NONE) xs → get_or xs v 0 ≢ NONE
number_some xs v some e =
    elim (cases_lt v (length xs)) [
      | inl lt ↦ absurd (some v 0 lt e)
      | inr le ↦ let none : get_or xs v 0 ≡ 0 = get_or_past xs v 0 le in absurd (omega (arith, e, none))
    ]

core_entry : (xs : List ℕ) (v : ℕ) → Fit xs → All (λ x. x ≢ NONE) xs → IsEntry forms.Cores (get_or xs v 0)
core_entry xs v fit some = record { fits = number_fits xs v fit; may = inr (number_some xs v some) }

dash_entry : (form : Form) (xs : List ℕ) (v : ℕ) → takes_dash form ≡ true → Fit xs → IsEntry form (get_or xs v 0)
dash_entry form xs v dash fit = record { fits = number_fits xs v fit; may = inl dash }

-- a text that is short enough is read by its tokens
by_tokens : (text : List ℕ) (limit : ℕ) → length text ≤ limit → reads_witness text limit ≡ read_tokens (tokens text) (length text)
by_tokens text limit le = cond-false _ _ _ (le-ltb limit (length text) le)

-- ---- cores

two_cores : (a b a' b' : List ℕ) → a ≡ a' → b ≡ b' → ◌≡◌ {A = Columns} (results.Cores (record { core = a; level = b })) (results.Cores (record { core = a'; level = b' }))
two_cores a b a' b' p q = cc

two_witnesses : (m m' : ℕ) (s s' : Option (List ℕ)) (c c' : Columns) → m ≡ m' → s ≡ s' → c ≡ c' →
    ◌≡◌ {A = Witness} (record { places = Some m; sources = s; columns = c }) (record { places = Some m'; sources = s'; columns = c' })
two_witnesses m m' s s' c c' p q r = cc

pub reads-cores_text : (m : ℕ) (c : Cores) → m ≤ MAX_M → AreLawfulCores c → Fit c.core → Fit c.level → (limit : ℕ) → length (cores_text m c) ≤ limit →
    reads_witness (cores_text m c) limit ≡ Ok (witness_of_columns m [] (results.Cores c))
unfolding cores_text
reads-cores_text m c fewer lawful core level limit le =
    let n : ℕ = length c.core in
    let columns : List (List ℕ) = c.core ∷ c.level ∷ [] in
    let text : List ℕ = result_text forms.Cores n m [] columns in
    let ws : List Word = tokens text in
    let are = texts-result_text forms.Cores n m lawful.few fewer c.core (c.level ∷ []) (core, (level, tt)) [] [] [] no_parts in
    let cores : (v : ℕ) → IsEntry forms.Cores (get_or c.core v 0) = λ v. core_entry c.core v core lawful.cores in
    let levels : (v : ℕ) → IsEntry forms.Cores (get_or c.level v 0) = λ v. core_entry c.level v level lawful.levels in
    let rows : (v : ℕ) → AreEntries forms.Cores (get_or c.core v 0 ∷ get_or c.level v 0 ∷ []) = λ v. (cores v, (levels v, tt)) in
    let ahead = nothing_named forms.Cores ws refl in
    let back : columns_said (written forms.Cores) ws ≡ results.Cores c =
    two_cores _ _ c.core c.level
    (column_back forms.Cores n m lawful.few fewer columns refl rows [] ws are ahead 0 c.core (omega arith) refl (λ v lt. refl) cores)
    (column_back forms.Cores n m lawful.few fewer columns refl rows [] ws are ahead 1 c.level (omega arith) lawful.level (λ v lt. refl) levels) in
    by_tokens text limit le
    ∙ reads_back forms.Cores n m lawful.few fewer columns refl rows [] ws are ahead (length text)
    ∙ ap (λ (w : Witness). Ok w) (two_witnesses (said_places ws) m None None _ (results.Cores c) (places_back forms.Cores n m lawful.few fewer _ ws are) refl back)

pub cores_text-short : (m : ℕ) (c : Cores) → m ≤ MAX_M → AreLawfulCores c → Fit c.core → Fit c.level → length (cores_text m c) < MAX_BYTES
unfolding cores_text
cores_text-short m c fewer lawful core level =
    result_text-short forms.Cores (length c.core) m [] c.core (c.level ∷ []) 42 lawful.few fewer (omega arith) (core, (level, tt)) (omega arith) (omega arith)

-- ---- distances

three_columns : (a b c a' b' c' : List ℕ) → a ≡ a' → b ≡ b' → c ≡ c' →
    ◌≡◌ {A = Columns} (results.Distances (record { dist = a; hops = b; parent = c })) (results.Distances (record { dist = a'; hops = b'; parent = c' }))
three_columns a b c a' b' c' p q r = cc

words_of : (xs : List ℕ) → All (λ s. s < 2 ^ 32) xs → AreWords xs
words_of [] fit = tt
words_of (x ∷ xs) fit = (omega (arith, fit 0 0 (omega arith)), words_of xs (λ k d lt. fit (suc k) d (omega (arith, lt))))

source_words : (sources : List ℕ) → AreNamedSources sources → All (λ s. s < 2 ^ 32) sources → AreWords (length sources ∷ sources)
source_words sources named small = (omega (arith, named.few), words_of sources small)

pub reads-distances_text : (m : ℕ) (sources : List ℕ) (d : Distances) → m ≤ MAX_M → AreNamedSources sources → All (λ s. s < 2 ^ 32) sources → AreLawfulDistances d →
    Fit d.dist → Fit d.hops → Fit d.parent → (limit : ℕ) → length (distances_text m sources d) ≤ limit →
    reads_witness (distances_text m sources d) limit ≡ Ok (witness_of_columns m sources (results.Distances d))
unfolding distances_text
reads-distances_text m sources d fewer named small lawful dist hops parent limit le =
    let n : ℕ = length d.dist in
    let columns : List (List ℕ) = d.dist ∷ d.hops ∷ d.parent ∷ [] in
    let text : List ℕ = result_text forms.Distances n m (sources_line sources) columns in
    let ws : List Word = tokens text in
    let numbers : List ℕ = length sources ∷ sources in
    let front : List (List ℕ) = map value_text numbers in
    let are = texts-result_text forms.Distances n m lawful.few fewer d.dist (d.hops ∷ d.parent ∷ []) (dist, (hops, (parent, tt))) (sources_line sources) front (line_parts numbers)
    (source_parts (length sources) sources (source_words sources named small)) in
    let entry : (xs : List ℕ) → Fit xs → (v : ℕ) → IsEntry forms.Distances (get_or xs v 0) = λ xs fit v. dash_entry forms.Distances xs v refl fit in
    let rows : (v : ℕ) → AreEntries forms.Distances (get_or d.dist v 0 ∷ get_or d.hops v 0 ∷ get_or d.parent v 0 ∷ []) =
    λ v. (entry d.dist dist v, (entry d.hops hops v, (entry d.parent parent v, tt))) in
    let ahead = sources_named n m lawful.few fewer sources named small _ ws are in
    let back : columns_said (written forms.Distances) ws ≡ results.Distances d =
    three_columns _ _ _ d.dist d.hops d.parent
    (column_back forms.Distances n m lawful.few fewer columns refl rows front ws are ahead 0 d.dist (omega arith) refl (λ v lt. refl) (entry d.dist dist))
    (column_back forms.Distances n m lawful.few fewer columns refl rows front ws are ahead 1 d.hops (omega arith) lawful.hops (λ v lt. refl) (entry d.hops hops))
    (column_back forms.Distances n m lawful.few fewer columns refl rows front ws are ahead 2 d.parent (omega arith) lawful.parent (λ v lt. refl) (entry d.parent parent)) in
    let sources_are : ◌≡◌ {A = Option (List ℕ)} (Some (said_sources ws)) (Some sources) = ap (λ (xs : List ℕ). Some xs) (sources_back n m lawful.few fewer sources named small _ ws are) in
    by_tokens text limit le
    ∙ reads_back forms.Distances n m lawful.few fewer columns refl rows front ws are ahead (length text)
    ∙ ap (λ (w : Witness). Ok w) (two_witnesses (said_places ws) m (Some (said_sources ws)) (Some sources) _ (results.Distances d)
    (places_back forms.Distances n m lawful.few fewer _ ws are) sources_are back)

pub distances_text-short : (m : ℕ) (sources : List ℕ) (d : Distances) → m ≤ MAX_M → AreNamedSources sources → All (λ s. s < 2 ^ 32) sources → AreLawfulDistances d →
    Fit d.dist → Fit d.hops → Fit d.parent → length (distances_text m sources d) < MAX_BYTES
unfolding distances_text
distances_text-short m sources d fewer named small lawful dist hops parent =
    result_text-short forms.Distances (length d.dist) m (sources_line sources) d.dist (d.hops ∷ d.parent ∷ []) 63 lawful.few fewer
    (sources_short sources (source_words sources named small) named.few) (dist, (hops, (parent, tt))) (omega arith) (omega arith)

-- ---- covers

two_covers : (a b a' b' : List ℕ) → a ≡ a' → b ≡ b' → ◌≡◌ {A = Columns} (results.Cover (record { round = a; by = b })) (results.Cover (record { round = a'; by = b' }))
two_covers a b a' b' p q = cc

pub reads-cover_text : (m : ℕ) (c : Cover) → m ≤ MAX_M → IsLawfulCover c → Fit c.round → Fit c.by → (limit : ℕ) → length (cover_text m c) ≤ limit →
    reads_witness (cover_text m c) limit ≡ Ok (witness_of_columns m [] (results.Cover c))
unfolding cover_text
reads-cover_text m c fewer lawful round by limit le =
    let n : ℕ = length c.round in
    let columns : List (List ℕ) = c.round ∷ c.by ∷ [] in
    let text : List ℕ = result_text forms.Cover n m [] columns in
    let ws : List Word = tokens text in
    let are = texts-result_text forms.Cover n m lawful.few fewer c.round (c.by ∷ []) (round, (by, tt)) [] [] [] no_parts in
    let entry : (xs : List ℕ) → Fit xs → (v : ℕ) → IsEntry forms.Cover (get_or xs v 0) = λ xs fit v. dash_entry forms.Cover xs v refl fit in
    let rows : (v : ℕ) → AreEntries forms.Cover (get_or c.round v 0 ∷ get_or c.by v 0 ∷ []) = λ v. (entry c.round round v, (entry c.by by v, tt)) in
    let ahead = nothing_named forms.Cover ws refl in
    let back : columns_said (written forms.Cover) ws ≡ results.Cover c =
    two_covers _ _ c.round c.by
    (column_back forms.Cover n m lawful.few fewer columns refl rows [] ws are ahead 0 c.round (omega arith) refl (λ v lt. refl) (entry c.round round))
    (column_back forms.Cover n m lawful.few fewer columns refl rows [] ws are ahead 1 c.by (omega arith) lawful.by (λ v lt. refl) (entry c.by by)) in
    by_tokens text limit le
    ∙ reads_back forms.Cover n m lawful.few fewer columns refl rows [] ws are ahead (length text)
    ∙ ap (λ (w : Witness). Ok w) (two_witnesses (said_places ws) m None None _ (results.Cover c) (places_back forms.Cover n m lawful.few fewer _ ws are) refl back)

pub cover_text-short : (m : ℕ) (c : Cover) → m ≤ MAX_M → IsLawfulCover c → Fit c.round → Fit c.by → length (cover_text m c) < MAX_BYTES
unfolding cover_text
cover_text-short m c fewer lawful round by =
    result_text-short forms.Cover (length c.round) m [] c.round (c.by ∷ []) 42 lawful.few fewer (omega arith) (round, (by, tt)) (omega arith) (omega arith)
