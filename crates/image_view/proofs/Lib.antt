pub mod ViewedLaws
