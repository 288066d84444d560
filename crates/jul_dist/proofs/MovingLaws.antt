-- Where the moves of vertices lead, and groups of moves put together.
use Rattle.std.proofs.Common.{◌≡◌, ◌≢◌, ◌⊎◌, ℕ, zero, suc, ◌<◌, ◌≤◌, ◌==◌, ◌||◌, cond, List, [], ◌∷◌, length, get_or, set, refl, ap, sym, ◌∙◌, subst, arith, inl, inr, Bool, true, false, Vec, Global, length-append, get_or-set_same}
use Rattle.std.specs.Prelude.{Contains, slice_index, Result, IfOk}
use Rattle.std.specs.declared.alloc.AllocError.{AllocError}
use Rattle.std.specs.List.{All}
use Rattle.std.proofs.lemmas.Bool.{eqb-true}
use Rattle.std.proofs.lemmas.List.{length-set}
use Rattle.std.proofs.lemmas.List.Elements.{All-from_get_or, Contains-get_or, Contains-append_left, Contains-append_right, Contains-append_cases}
use Rattle.jul_base.specs.declared.limits.TheConstants.{NONE}
use Rattle.jul_base.proofs.SetLaws.{Contains-cons_cases}
use Rattle.jul_bucket.specs.declared.draws.Dest.{Dest}
use Rattle.jul_bucket.specs.declared.draws.Dest.TheVariants.{Null, Open, Overflow}
use Rattle.jul_bucket.specs.Places.{set_places}
use Rattle.jul_bucket.specs.States.{State, dest_of, is_open, offset}
use Rattle.jul_bucket.proofs.IdLaws.{set_places-cases}
use Rattle.jul_dist.specs.Moving.{bucket_of, move_to, move_of, moves_of}

-- a result of which this is said, where the list is another one
pub all_moves : (r : Result (Vec (ℕ × ℕ) Global) AllocError) (one other : List (ℕ × ℕ)) → IfOk r (λ moves. moves.items ≡ one) → one ≡ other → IfOk r (λ moves. moves.items ≡ other)
all_moves r one other h e = subst (λ l. IfOk r (λ moves. moves.items ≡ l)) e h

-- ---- one move

-- a move leads to the bucket of the number, and none is made only where the vertex is there
to_cases : (d : Dest) (m : ℕ × ℕ) → ((d ≡ Null) × (move_to d m ≡ [])) ⊎ (move_to d m ≡ m ∷ [])
to_cases Null m = inl (refl, refl)
to_cases (Open i) m = inr refl
to_cases Overflow m = inr refl

null_test : (b c : Bool) (i : ℕ) → cond b Null (cond c (Open i) Overflow) ≡ Null → b ≡ true
null_test true c i e = refl
null_test false true i e = absurd (cc)
null_test false false i e = absurd (cc)

or_cases : (b c : Bool) → (b || c) ≡ true → (b ≡ true) ⊎ (c ≡ true)
or_cases true c e = inl refl
or_cases false c e = inr e

null_where : (s : State) (prev next : ℕ) → dest_of s prev next ≡ Null → (next ≡ NONE) ⊎ (next ≡ prev)
null_where s prev next e =
    elim (or_cases (next == NONE) (next == prev) (null_test ((next == NONE) || (next == prev)) (is_open s next) (offset s next) e)) [
      | inl none ↦ inl (eqb-true next NONE none)
      | inr same ↦ inr (eqb-true next prev same)
    ]

module _ (s : State) (delta : ℕ) (values : List ℕ) where
  one_cases : (v : ℕ) → ((bucket_of delta values v ≡ NONE) ⊎ (bucket_of delta values v ≡ slice_index s.places v)) × (move_of s delta values v ≡ []) ⊎ (move_of s delta values v ≡ (v, bucket_of delta values v) ∷ [])
  one_cases v = elim (to_cases (dest_of s (slice_index s.places v) (bucket_of delta values v)) (v, bucket_of delta values v)) [
    | inl (is_null, none) ↦ inl (null_where s (slice_index s.places v) (bucket_of delta values v) is_null, none)
    | inr one ↦ inr one
  ]

  -- a move is one of a vertex of the list to the bucket of its number
  pub move_is : (ids : List ℕ) (m : ℕ × ℕ) → Contains (moves_of s delta values ids) m → Contains ids m.0 × (m.1 ≡ bucket_of delta values m.0)
  move_is [] m (k, lt, is) = absurd (omega (arith, lt))
  move_is (v ∷ vs) m there =
      elim (Contains-append_cases (move_of s delta values v) (moves_of s delta values vs) m there) [
        | inl first ↦ elim (one_cases v) [
          | inl (why, none) ↦ absurd (nothing (subst (λ l. Contains l m) none first))
          | inr one ↦ here (subst (λ l. Contains l m) one first)
        ]
        | inr later ↦
            let (c, is) = move_is vs m later in
            (Contains-append_right (v ∷ []) vs m.0 c, is)
      ] where
        nothing : Contains [] m → ⊥
        nothing (k, lt, is) = absurd (omega (arith, lt))

        here : Contains ((v, bucket_of delta values v) ∷ []) m → Contains (v ∷ vs) m.0 × (m.1 ≡ bucket_of delta values m.0)
        here (k, lt, is) =
            let first : k ≡ 0 = omega (arith, lt) in
            let m_is : (v, bucket_of delta values v) ≡ m = ap (λ i. get_or ((v, bucket_of delta values v) ∷ []) i m) (sym first) ∙ is in
            (subst (λ (x : ℕ × ℕ). Contains (v ∷ vs) x.0) m_is (zero, omega arith, refl), subst (λ (x : ℕ × ℕ). x.1 ≡ bucket_of delta values x.0) m_is refl)

  -- each vertex of the list is moved, or is there already
  pub moved_or_there : (ids : List ℕ) (v : ℕ) → Contains ids v → Contains (moves_of s delta values ids) (v, bucket_of delta values v) ⊎ ((bucket_of delta values v ≡ NONE) ⊎ (bucket_of delta values v ≡ slice_index s.places v))
  moved_or_there [] v (k, lt, is) = absurd (omega (arith, lt))
  moved_or_there (u ∷ us) v there = elim (Contains-cons_cases u us v there) [
    | inl e ↦ subst (λ x. Contains (moves_of s delta values (u ∷ us)) (x, bucket_of delta values x) ⊎ ((bucket_of delta values x ≡ NONE) ⊎ (bucket_of delta values x ≡ slice_index s.places x))) e first
    | inr later ↦ elim (moved_or_there us v later) [
      | inl moved ↦ inl (Contains-append_right (move_of s delta values u) (moves_of s delta values us) (v, bucket_of delta values v) moved)
      | inr why ↦ inr why
    ]
  ] where
    first : Contains (moves_of s delta values (u ∷ us)) (u, bucket_of delta values u) ⊎ ((bucket_of delta values u ≡ NONE) ⊎ (bucket_of delta values u ≡ slice_index s.places u))
    first = elim (one_cases u) [
      | inl (why, none) ↦ inr why
      | inr one ↦
          inl (Contains-append_left (move_of s delta values u) (moves_of s delta values us) (u, bucket_of delta values u)
          (subst (λ l. Contains l (u, bucket_of delta values u)) (sym one) (zero, omega arith, refl)))
    ]

  -- there are no more moves than vertices
  pub moves_few : (ids : List ℕ) → length (moves_of s delta values ids) ≤ length ids
  moves_few [] = omega arith
  moves_few (v ∷ vs) = omega (arith, length-append (move_of s delta values v) (moves_of s delta values vs), moves_few vs, one_few) where
    one_few : length (move_of s delta values v) ≤ 1
    one_few = elim (one_cases v) [
      | inl (why, none) ↦ omega (arith, ap (λ (l : List (ℕ × ℕ)). length l) none)
      | inr one ↦ omega (arith, ap (λ (l : List (ℕ × ℕ)). length l) one)
    ]

-- ---- places

-- a vertex of which there is a move gets the place of one of its moves
move_sets : (places : List ℕ) (moves : List (ℕ × ℕ)) (m : ℕ × ℕ) → m.0 < length places → Contains moves m →
    (n : ℕ × ℕ) × Contains moves n × (n.0 ≡ m.0) × (slice_index (set_places places moves) m.0 ≡ n.1)
move_sets places [] m lt (k, k_lt, is) = absurd (omega (arith, k_lt))
move_sets places (first ∷ moves) m lt (zero, k_lt, is) =
    elim (set_places-cases (set places first.0 first.1) moves m.0 (omega (arith, lt, length-set places first.0 first.1))) [
      | inl (n, there, of', at) ↦ (n, Contains-append_right (first ∷ []) moves n there, of', at)
      | inr kept ↦
          let same : m.0 ≡ first.0 = ap (λ (x : ℕ × ℕ). x.0) (sym is) in
          (first, (zero, omega arith, refl), sym same, kept ∙ ap (slice_index (set places first.0 first.1)) same ∙ get_or-set_same places first.0 first.1 0 (omega (arith, lt, same)))
    ]
move_sets places (first ∷ moves) m lt (suc k, k_lt, is) =
    let (n, there, of', at) = move_sets (set places first.0 first.1) moves m (omega (arith, lt, length-set places first.0 first.1)) (k, omega arith, is) in
    (n, Contains-append_right (first ∷ []) moves n there, of', at)

module _ (s : State) (delta : ℕ) (values ids : List ℕ) where
  -- a vertex of the list has the bucket of its number as its place
  pub placed_there : (v : ℕ) → v < length s.places → Contains ids v → bucket_of delta values v ≢ NONE →
      slice_index (set_places s.places (moves_of s delta values ids)) v ≡ bucket_of delta values v
  placed_there v lt there some = elim (set_places-cases s.places (moves_of s delta values ids) v lt) [
    | inl (n, n_there, of', at) ↦ at ∙ (move_is s delta values ids n n_there).1 ∙ ap (bucket_of delta values) of'
    | inr kept ↦ elim (moved_or_there s delta values ids v there) [
      | inl moved ↦
          let (n, n_there, of', at) = move_sets s.places (moves_of s delta values ids) (v, bucket_of delta values v) lt moved in
          at ∙ (move_is s delta values ids n n_there).1 ∙ ap (bucket_of delta values) of'
      | inr (inl none) ↦ absurd (some none)
      | inr (inr same) ↦ kept ∙ sym same
    ]
  ]

  -- each other vertex stays where it is
  pub placed_still : (v : ℕ) → v < length s.places → (Contains ids v → ⊥) → slice_index (set_places s.places (moves_of s delta values ids)) v ≡ slice_index s.places v
  placed_still v lt other = elim (set_places-cases s.places (moves_of s delta values ids) v lt) [
    | inl (n, n_there, of', at) ↦ absurd (other (subst (Contains ids) of' (move_is s delta values ids n n_there).0))
    | inr kept ↦ kept
  ]

  -- what holds of each vertex of the list and its bucket holds of the moves
  pub moves_all : (P : ℕ × ℕ → Type 0) → ((v : ℕ) → Contains ids v → P (v, bucket_of delta values v)) → All P (moves_of s delta values ids)
  moves_all P each =
      All-from_get_or P (moves_of s delta values ids) (0, 0)
      (λ k lt.
      let m : ℕ × ℕ = get_or (moves_of s delta values ids) k (0, 0) in
      let (there, is) = move_is s delta values ids m (Contains-get_or (moves_of s delta values ids) k (0, 0) lt) in
      subst (λ b. P (m.0, b)) (sym is) (each m.0 there))
