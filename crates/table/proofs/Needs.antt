-- A function's `spec` takes an answer to each of its needs, one after the other. Here it takes the next few as one tuple, so that one
-- call of a tactic answers them all.

pub all2 : {A B : Type 0} {F : Type 2} → (A → B → F) → A × B → F
all2 f n = f n.0 n.1

pub all3 : {A B C : Type 0} {F : Type 2} → (A → B → C → F) → A × B × C → F
all3 f n = f n.0 n.1 n.2

pub all4 : {A B C D : Type 0} {F : Type 2} → (A → B → C → D → F) → A × B × C × D → F
all4 f n = f n.0 n.1 n.2 n.3

pub all5 : {A B C D E : Type 0} {F : Type 2} → (A → B → C → D → E → F) → A × B × C × D × E → F
all5 f n = f n.0 n.1 n.2 n.3 n.4

pub all6 : {A B C D E G : Type 0} {F : Type 2} → (A → B → C → D → E → G → F) → A × B × C × D × E × G → F
all6 f n = f n.0 n.1 n.2 n.3 n.4 n.5

pub all7 : {A B C D E G H : Type 0} {F : Type 2} → (A → B → C → D → E → G → H → F) → A × B × C × D × E × G × H → F
all7 f n = f n.0 n.1 n.2 n.3 n.4 n.5 n.6

pub all8 : {A B C D E G H I : Type 0} {F : Type 2} → (A → B → C → D → E → G → H → I → F) → A × B × C × D × E × G × H × I → F
all8 f n = f n.0 n.1 n.2 n.3 n.4 n.5 n.6 n.7

pub all9 : {A B C D E G H I J : Type 0} {F : Type 2} → (A → B → C → D → E → G → H → I → J → F) → A × B × C × D × E × G × H × I × J → F
all9 f n = f n.0 n.1 n.2 n.3 n.4 n.5 n.6 n.7 n.8

pub all10 : {A B C D E G H I J K : Type 0} {F : Type 2} → (A → B → C → D → E → G → H → I → J → K → F) → A × B × C × D × E × G × H × I × J × K → F
all10 f n = f n.0 n.1 n.2 n.3 n.4 n.5 n.6 n.7 n.8 n.9

pub all11 : {A B C D E G H I J K L : Type 0} {F : Type 2} → (A → B → C → D → E → G → H → I → J → K → L → F) → A × B × C × D × E × G × H × I × J × K × L → F
all11 f n = f n.0 n.1 n.2 n.3 n.4 n.5 n.6 n.7 n.8 n.9 n.10

pub all12 : {A B C D E G H I J K L M : Type 0} {F : Type 2} → (A → B → C → D → E → G → H → I → J → K → L → M → F) → A × B × C × D × E × G × H × I × J × K × L × M → F
all12 f n = f n.0 n.1 n.2 n.3 n.4 n.5 n.6 n.7 n.8 n.9 n.10 n.11

pub all13 : {A B C D E G H I J K L M N : Type 0} {F : Type 2} → (A → B → C → D → E → G → H → I → J → K → L → M → N → F) → A × B × C × D × E × G × H × I × J × K × L × M × N → F
all13 f n = f n.0 n.1 n.2 n.3 n.4 n.5 n.6 n.7 n.8 n.9 n.10 n.11 n.12

pub all14 : {A B C D E G H I J K L M N O : Type 0} {F : Type 2} → (A → B → C → D → E → G → H → I → J → K → L → M → N → O → F) → A × B × C × D × E × G × H × I × J × K × L × M × N × O → F
all14 f n = f n.0 n.1 n.2 n.3 n.4 n.5 n.6 n.7 n.8 n.9 n.10 n.11 n.12 n.13

pub all15 : {A B C D E G H I J K L M N O P : Type 0} {F : Type 2} → (A → B → C → D → E → G → H → I → J → K → L → M → N → O → P → F) → A × B × C × D × E × G × H × I × J × K × L × M × N × O × P → F
all15 f n = f n.0 n.1 n.2 n.3 n.4 n.5 n.6 n.7 n.8 n.9 n.10 n.11 n.12 n.13 n.14

pub all16 : {A B C D E G H I J K L M N O P Q : Type 0} {F : Type 2} → (A → B → C → D → E → G → H → I → J → K → L → M → N → O → P → Q → F) → A × B × C × D × E × G × H × I × J × K × L × M × N × O × P × Q → F
all16 f n = f n.0 n.1 n.2 n.3 n.4 n.5 n.6 n.7 n.8 n.9 n.10 n.11 n.12 n.13 n.14 n.15
