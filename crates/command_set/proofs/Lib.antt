mod ViewLaws
