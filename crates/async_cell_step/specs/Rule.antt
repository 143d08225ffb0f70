-- What is known of the copies of a value that keeps a rule.

-- a clone of a value that satisfies `P`
abbrev pub IsCloneOfOne : {T : Type 0} → (T → T → Type 0) → (T → Type 0) → T → Type 0
IsCloneOfOne {T} is_clone P copy = (value : T) × P value × is_clone value copy
