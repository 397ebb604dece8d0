-- Tuples of the values of parsers in a row are the same where each part is.

-- tuples of three are the same where each part is
abbrev pub AreSame3 : {A B C : Type 0} → (A → A → Type 0) → (B → B → Type 0) → (C → C → Type 0)
    → A × B × C → A × B × C → Type 0
AreSame3 a b c p q = a p.0 q.0 × b p.1 q.1 × c p.2 q.2

-- tuples of four are the same where each part is
abbrev pub AreSame4 : {A B C D : Type 0} → (A → A → Type 0) → (B → B → Type 0) → (C → C → Type 0)
    → (D → D → Type 0) → A × B × C × D → A × B × C × D → Type 0
AreSame4 a b c d p q = a p.0 q.0 × b p.1 q.1 × c p.2 q.2 × d p.3 q.3

-- tuples of five are the same where each part is
abbrev pub AreSame5 : {A B C D E : Type 0} → (A → A → Type 0) → (B → B → Type 0) → (C → C → Type 0)
    → (D → D → Type 0) → (E → E → Type 0) → A × B × C × D × E → A × B × C × D × E → Type 0
AreSame5 a b c d e p q = a p.0 q.0 × b p.1 q.1 × c p.2 q.2 × d p.3 q.3 × e p.4 q.4

-- tuples of six are the same where each part is
abbrev pub AreSame6 : {A B C D E F : Type 0} → (A → A → Type 0) → (B → B → Type 0)
    → (C → C → Type 0) → (D → D → Type 0) → (E → E → Type 0) → (F → F → Type 0)
    → A × B × C × D × E × F → A × B × C × D × E × F → Type 0
AreSame6 a b c d e f p q = a p.0 q.0 × b p.1 q.1 × c p.2 q.2 × d p.3 q.3 × e p.4 q.4 × f p.5 q.5

-- tuples of seven are the same where each part is
abbrev pub AreSame7 : {A B C D E F G : Type 0} → (A → A → Type 0) → (B → B → Type 0)
    → (C → C → Type 0) → (D → D → Type 0) → (E → E → Type 0) → (F → F → Type 0) → (G → G → Type 0)
    → A × B × C × D × E × F × G → A × B × C × D × E × F × G → Type 0
AreSame7 a b c d e f g p q = a p.0 q.0 × b p.1 q.1 × c p.2 q.2 × d p.3 q.3 × e p.4 q.4 × f p.5 q.5 × g p.6 q.6

-- tuples of eight are the same where each part is
abbrev pub AreSame8 : {A B C D E F G H : Type 0} → (A → A → Type 0) → (B → B → Type 0)
    → (C → C → Type 0) → (D → D → Type 0) → (E → E → Type 0) → (F → F → Type 0) → (G → G → Type 0)
    → (H → H → Type 0) → A × B × C × D × E × F × G × H → A × B × C × D × E × F × G × H → Type 0
AreSame8 a b c d e f g h p q = a p.0 q.0 × b p.1 q.1 × c p.2 q.2 × d p.3 q.3 × e p.4 q.4 × f p.5 q.5 × g p.6 q.6 × h p.7 q.7

-- tuples of nine are the same where each part is
abbrev pub AreSame9 : {A B C D E F G H I : Type 0} → (A → A → Type 0) → (B → B → Type 0)
    → (C → C → Type 0) → (D → D → Type 0) → (E → E → Type 0) → (F → F → Type 0) → (G → G → Type 0)
    → (H → H → Type 0) → (I → I → Type 0) → A × B × C × D × E × F × G × H × I
    → A × B × C × D × E × F × G × H × I → Type 0
AreSame9 a b c d e f g h i p q = a p.0 q.0 × b p.1 q.1 × c p.2 q.2 × d p.3 q.3 × e p.4 q.4 × f p.5 q.5 × g p.6 q.6 × h p.7 q.7 × i p.8 q.8

-- tuples of ten are the same where each part is
abbrev pub AreSame10 : {A B C D E F G H I J : Type 0} → (A → A → Type 0) → (B → B → Type 0)
    → (C → C → Type 0) → (D → D → Type 0) → (E → E → Type 0) → (F → F → Type 0) → (G → G → Type 0)
    → (H → H → Type 0) → (I → I → Type 0) → (J → J → Type 0)
    → A × B × C × D × E × F × G × H × I × J → A × B × C × D × E × F × G × H × I × J → Type 0
AreSame10 a b c d e f g h i j p q = a p.0 q.0 × b p.1 q.1 × c p.2 q.2 × d p.3 q.3 × e p.4 q.4 × f p.5 q.5 × g p.6 q.6 × h p.7 q.7 × i p.8 q.8 × j p.9 q.9
