-- Logs with parts: what one followed by another gives.
use Rattle.std.proofs.Common.{◌≡◌, List, [], ◌∷◌, ◌++◌, length, refl, ap, arith, append_assoc}
use Rattle.jul_base.specs.Logs.{Log, Home, followed_by, empty_log}

-- a log that is followed by one with no part is unchanged
pub followed_by-nil : (xs : Log) → followed_by xs [] ≡ xs
followed_by-nil [] = refl
followed_by-nil (x ∷ xs) = refl

-- it doesn't matter in which order three logs are put together
pub followed_by-assoc : (xs ys zs : Log) → followed_by (followed_by xs ys) zs ≡ followed_by xs (followed_by ys zs)
followed_by-assoc [] ys zs = refl
followed_by-assoc (x ∷ xs) [] zs = refl
followed_by-assoc (x ∷ xs) (y ∷ ys) [] = refl
followed_by-assoc (x ∷ xs) (y ∷ ys) (z ∷ zs) =
    let rest : followed_by (followed_by xs ys) zs ≡ followed_by xs (followed_by ys zs) = followed_by-assoc xs ys zs in
    let first : (x ++ y) ++ z ≡ x ++ (y ++ z) = append_assoc x y z in cc

-- of two logs of two pieces each, the first pieces with equally many parts, each piece is followed by its own
pub followed_by-append : (xs us ys vs : Log) → length xs ≡ length us → followed_by (xs ++ ys) (us ++ vs) ≡ followed_by xs us ++ followed_by ys vs
followed_by-append [] [] ys vs e = refl
followed_by-append [] (u ∷ us) ys vs e = absurd (omega arith)
followed_by-append (x ∷ xs) [] ys vs e = absurd (omega arith)
followed_by-append (x ∷ xs) (u ∷ us) ys vs e = ap (λ l. (x ++ u) ∷ l) (followed_by-append xs us ys vs (omega arith))

pub empty_log-append : (hs ks : List Home) → empty_log (hs ++ ks) ≡ empty_log hs ++ empty_log ks
empty_log-append [] ks = refl
empty_log-append (h ∷ hs) ks = ap (λ l. [] ∷ l) (empty_log-append hs ks)

-- appended lists are equal only piece by piece, where the first pieces have one length
pub append-equal : {X : Type 0} (xs us ys vs : List X) → length xs ≡ length us → xs ++ ys ≡ us ++ vs → (xs ≡ us) × (ys ≡ vs)
append-equal [] [] ys vs e p = (refl, p)
append-equal [] (u ∷ us) ys vs e p = absurd (omega arith)
append-equal (x ∷ xs) [] ys vs e p = absurd (omega arith)
append-equal (x ∷ xs) (u ∷ us) ys vs e p =
    let q : (xs ≡ us) × (ys ≡ vs) = append-equal xs us ys vs (omega arith) (cc) in
    let h : x ≡ u = cc in
    let t : xs ≡ us = q.0 in (cc, q.1)
